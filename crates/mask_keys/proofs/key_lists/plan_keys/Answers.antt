use Rattle.mask_keys.proofs.PlanKeyLemmas.{keys-before}
use Rattle.mask_keys.proofs.key_lists.plan_keys.Goals as goal

pub loop-draw-preserved : goal.loop-draw-preserved
loop-draw-preserved c =
    keys-before (λ k. k.now) c.args.draws.now c.loop-draw.draw-index c.draw-item.result c.loop-draw.keys.items c.add_draw_keys.new.keys.items c.loop-draw-test.true c.draw-item.is c.loop-draw.invariant c.in_ok-add_draw_keys.ensures
