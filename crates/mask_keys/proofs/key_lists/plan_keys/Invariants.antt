use Rattle.std.proofs.Common.{◌≡◌, map, take}
use Rattle.mask_keys.specs.PlanKeys.{plan_keys}
use Rattle.mask_keys.proofs.key_lists.plan_keys.Given as goal

abbrev pub invariant-loop-draw : goal.invariant-loop-draw
invariant-loop-draw l = map (λ k. k.now) l.keys.items ≡ plan_keys (take l.draw-index l.draws)
