use Rattle.std.proofs.Common.{ap, ◌∙◌}
use Rattle.std.specs.Arc.{arc_value}
use Rattle.evict_core.specs.Machine.{Fill, state_after}
use Rattle.flight_cache.proofs.boxed_entries.BoxedEntries.fill.Goals as goal

pub returns : goal.returns
returns g c = λ m. c.fill.ensures m ∙ ap (λ s. state_after g.K.PartialEq.eq s m (Fill c.args.key.now c.args.cost (arc_value c.args.value))) (c.deref_mut.ensures.value ∙ c.self.view_is)
