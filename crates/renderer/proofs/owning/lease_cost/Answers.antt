use Rattle.std.proofs.Common.{ap, ◌∙◌, arith}
use Rattle.mask_keys.specs.Costs.{mask_cost}
use Rattle.renderer.proofs.owning.lease_cost.Goals as goal

pub cost-requires : goal.cost-requires
cost-requires c = omega arith

pub returns-in-Own : goal.returns-in-Own
returns-in-Own c = record {
  cost = rw c.in-Own.is (c.cost.ensures ∙ ap mask_cost c.deref.ensures);
  small = omega (arith, c.cost.ensures);
}
