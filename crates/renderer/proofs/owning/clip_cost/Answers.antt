use Rattle.std.proofs.Common.{arith}
use Rattle.renderer.proofs.owning.clip_cost.Goals as goal

pub returns-in-Drawn : goal.returns-in-Drawn
returns-in-Drawn c = record {
  cost = rw c.in-Drawn.is (omega (arith, c.lease_cost.ensures.cost));
  small = c.lease_cost.ensures.small;
}
