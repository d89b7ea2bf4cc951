use Rattle.std.specs.Arc.{arc_value}
use Rattle.world_core.proofs.HeldValues.{value-lacking}
use Rattle.world_core.proofs.painting.held_mask.Goals as goal

pub returns-clause-held : goal.returns-clause-held
returns-clause-held c = rw c.in_ok-copy.ensures at c.held_value.ensures.held

pub returns-clause-value : goal.returns-clause-value
returns-clause-value c = rw c.in_ok-copy.ensures at c.held_value.ensures.value

pub returns-clause-none : goal.returns-clause-none
returns-clause-none c = value-lacking arc_value c.held_value.result _ (rw c.in_ok-copy.ensures at c.held_value.ensures.none)
