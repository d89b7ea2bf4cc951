use Rattle.std.proofs.Common.{ap, ◌∙◌}
use Rattle.evict_core.specs.Machine.{Hit, Ask, state_after}
use Rattle.flight_cache.proofs.boxed_entries.BoxedEntries.pin.Goals as goal

pub returns : goal.returns
returns g c = λ m. c.pin.ensures m ∙ ap (λ s. state_after g.K.PartialEq.eq s m (Ask c.args.key.now Hit)) (c.deref_mut.ensures.value ∙ c.self.view_is)
