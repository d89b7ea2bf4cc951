use Rattle.std.proofs.Common.{ap, ◌∙◌}
use Rattle.evict_core.specs.Machine.{Unpin, state_after}
use Rattle.flight_cache.proofs.boxed_entries.BoxedEntries.unpin.Goals as goal

pub returns : goal.returns
returns g c = λ m. c.unpin.ensures m ∙ ap (λ s. state_after g.K.PartialEq.eq s m (Unpin c.args.key.now)) (c.deref_mut.ensures.value ∙ c.self.view_is)
