use Rattle.std.proofs.Common.{sym, ◌∙◌}
use Rattle.sfnt_font.proofs.Steps.{table_from-next}
use Rattle.sfnt_font.proofs.directory.table_named.Goals as goal

pub loop-k-preserved : goal.loop-k-preserved
loop-k-preserved c =
    table_from-next c.args.bytes.now c.args.name c.args.directory.first c.args.directory.count c.loop-k.k c.loop-k-test.true (sym c.is_table.ensures ∙ c.if-is_table.false)
    ∙ c.loop-k.invariant
