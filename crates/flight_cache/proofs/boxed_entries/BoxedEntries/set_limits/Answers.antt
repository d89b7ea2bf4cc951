use Rattle.std.proofs.Common.{ap, ◌∙◌}
use Rattle.evict_core.specs.Machine.{Limits, state_after}
use Rattle.flight_cache.proofs.boxed_entries.BoxedEntries.set_limits.Goals as goal

pub returns : goal.returns
returns g c = λ m. c.set_limits.ensures m ∙ ap (λ s. state_after g.K.PartialEq.eq s m (Limits c.args.entries c.args.budget)) (c.deref_mut.ensures.value ∙ c.self.view_is)
