use Rattle.std.proofs.Common.{arith, pos}
use Rattle.std.proofs.lemmas.Int.{ints}
use Rattle.ass_num.specs.declared.region.Run.{Run}
use Rattle.ass_num.proofs.RegionLemmas.{run_at}
use Rattle.border_region.proofs.WideLemmas.{widened_more}
use Rattle.border_region.proofs.wide_rows.widen_row.Goals as goal

abbrev none : Run
none = record { from = pos 0; to = pos 0 }

pub add_run-requires-clause-samples : goal.add_run-requires-clause-samples
add_run-requires-clause-samples c =
    let s = run_at c.args.row.now c.loop-run.run-index none c.requires.ascends c.loop-run-test.true in
    let f = c.wider.ensures.from in
    let t = c.wider.ensures.to in
    omega (arith, ints)

pub loop-run-preserved : goal.loop-run-preserved
loop-run-preserved c = widened_more c.args.width c.args.row.now c.loop-run.run-index none c.wider.result c.loop-run.wide.items c.add_run.new.runs.items c.requires.ascends c.loop-run-test.true c.wider.ensures.from c.wider.ensures.to c.loop-run.invariant c.in_ok-add_run.ensures
