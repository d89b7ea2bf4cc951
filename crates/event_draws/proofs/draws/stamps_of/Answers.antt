use Rattle.event_draws.proofs.StampLemmas.{stamps_step}
use Rattle.event_draws.proofs.draws.stamps_of.Goals as goal

pub loop-mark-preserved : goal.loop-mark-preserved
loop-mark-preserved c =
    stamps_step c.args.stage.now c.args.making.now c.args.marks.now c.loop-mark.mark-index c.mark-item.result c.loop-mark.stamps.items c.push_stamp.new.stamps.items c.loop-mark-test.true
    c.mark-item.is c.loop-mark.invariant c.in_ok-push_stamp.ensures
