use Rattle.std.proofs.Common.{sym, ◌∙◌, arith}
use Rattle.std.proofs.lemmas.Str.Pattern.{starts_text}
use Rattle.tag_arguments.proofs.NameLemmas.{row_taken, row_passed}
use Rattle.tag_arguments.proofs.names.longest_row.Goals.{then-starts_with, else-starts_with}
use Rattle.tag_arguments.proofs.names.longest_row.Goals as goal

pub loop-row-preserved : goal.loop-row-preserved
loop-row-preserved c =
    let starts = sym (starts_text c.starts_with.result _ c.args.text.now c.starts_with.ensures.cases) in
    elim c.if-starts_with.branch [
      | then-starts_with w ↦ row_taken c.args.rows.now c.loop-row.row-index _ c.args.text.now c.loop-row.longest c.if-starts_with.longest _ (omega arith) w.longer_found.result (starts ∙ w.if-starts_with.true) w.longest-is w.longer_found.ensures c.loop-row.invariant
      | else-starts_with w ↦ row_passed c.args.rows.now c.loop-row.row-index _ c.args.text.now c.loop-row.longest c.if-starts_with.longest _ (omega arith) (starts ∙ w.if-starts_with.false) w.longest-is c.loop-row.invariant
    ]
