use Rattle.std.proofs.Common.{false}
use Rattle.event_draws.specs.Draws.{run_border}
use Rattle.event_draws.proofs.RowLemmas.{added_more}
use Rattle.event_draws.proofs.rows.add_row_borders.Goals as goal

pub loop-run-preserved : goal.loop-run-preserved
loop-run-preserved c =
    added_more (run_border c.args.stage.now c.args.clip.now false) c.args.draws.now c.loop-run.draws c.add_run_border.new.draws c.as_slice-run-items.result.now c.loop-run.run-index c.run-item.result c.loop-run-test.true
    c.run-item.is c.loop-run.invariant c.in_ok-add_run_border.ensures
