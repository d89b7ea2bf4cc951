use Rattle.world_core.proofs.HeldValues.{draw-held}
use Rattle.world_core.proofs.painting.paint_draw.Goals as goal

pub paint_value-requires-clause-value : goal.paint_value-requires-clause-value
paint_value-requires-clause-value c = rw c.deref.ensures (rw c.in-Some.is at c.in_ok-found.ensures.value)

pub returns-in-Some-clause-held : goal.returns-in-Some-clause-held
returns-in-Some-clause-held c = draw-held c.args.caches.now c.args.actor c.args.draw.now c.paint_value.result (rw c.in-Some.is at c.in_ok-found.ensures.held) c.paint_value.ensures.held

pub returns-in-None-clause-held : goal.returns-in-None-clause-held
returns-in-None-clause-held c = (λ t. cc, λ h. absurd ((rw c.in-None.is at c.in_ok-found.ensures.none) h.mask))
