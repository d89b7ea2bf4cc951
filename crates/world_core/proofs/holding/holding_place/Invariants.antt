use Rattle.world_core.proofs.Places.{IsLeft}
use Rattle.world_core.proofs.holding.holding_place.Given as goal

abbrev pub invariant-loop-at : goal.invariant-loop-at
invariant-loop-at g l = IsLeft l.actor l.list l.i l.left l.at
