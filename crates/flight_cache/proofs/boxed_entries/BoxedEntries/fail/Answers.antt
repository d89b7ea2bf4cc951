use Rattle.std.proofs.Common.{ap, ◌∙◌}
use Rattle.evict_core.specs.Machine.{Fail, state_after}
use Rattle.flight_cache.proofs.boxed_entries.BoxedEntries.fail.Goals as goal

pub returns : goal.returns
returns g c = λ m. c.fail.ensures m ∙ ap (λ s. state_after g.K.PartialEq.eq s m (Fail c.args.key.now)) (c.deref_mut.ensures.value ∙ c.self.view_is)
