use Rattle.std.proofs.Common.{rules, pos}
use Rattle.ass_num.specs.declared.region.Run.{Run}
use Rattle.border_region.proofs.WideLemmas.{covers_more}
use Rattle.border_region.proofs.wide_rows.covers_row.Goals as goal

abbrev none : Run
none = record { from = pos 0; to = pos 0 }

pub loop-run-preserved : goal.loop-run-preserved
loop-run-preserved c = covers_more c.args.width c.args.row.now c.loop-run.run-index none c.wider.result c.args.runs.now c.loop-run-test.true c.wider.ensures.from c.wider.ensures.to c.loop-run.invariant (c.covers.ensures (search rules))
