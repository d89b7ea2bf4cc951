use Rattle.event_draws.specs.Draws.{run_fill}
use Rattle.event_draws.proofs.RowLemmas.{added_more}
use Rattle.event_draws.proofs.rows.add_row_fills.Goals as goal

pub loop-run-preserved : goal.loop-run-preserved
loop-run-preserved c =
    added_more (run_fill c.args.stage.now c.args.clip.now c.is_boxed-boxed.result) c.args.draws.now c.loop-run.draws c.add_run_fill.new.draws c.as_slice-run-items.result.now c.loop-run.run-index c.run-item.result c.loop-run-test.true
    c.run-item.is c.loop-run.invariant c.in_ok-add_run_fill.ensures
