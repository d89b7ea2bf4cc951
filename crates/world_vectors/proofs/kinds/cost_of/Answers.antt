use Rattle.world_core.proofs.Costs.{cost-most}
use Rattle.world_vectors.proofs.kinds.cost_of.Goals as goal

pub made_value-requires-clause-key : goal.made_value-requires-clause-key
made_value-requires-clause-key c = rw (c.new.ensures, c.in_ok-copy.ensures) c.requires

pub cost-requires : goal.cost-requires
cost-requires c = cost-most c.in_ok-value.value
