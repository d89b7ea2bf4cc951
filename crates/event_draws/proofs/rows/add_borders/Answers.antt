use Rattle.event_draws.specs.EventDraws.{row_borders}
use Rattle.event_draws.proofs.RowLemmas.{added_more}
use Rattle.event_draws.proofs.rows.add_borders.Goals as goal

pub loop-row-preserved : goal.loop-row-preserved
loop-row-preserved c =
    added_more (row_borders c.args.stage.now c.args.clip.now) c.args.draws.now c.loop-row.draws c.add_row_borders.new.draws c.args.rows.now c.loop-row.row-index c.row-item.result c.loop-row-test.true
    c.row-item.is c.loop-row.invariant c.in_ok-add_row_borders.ensures
