use Rattle.std.proofs.Common.{ap, ◌∙◌}
use Rattle.evict_core.specs.Machine.{Hard, State, holds_all, state_after}
use Rattle.flight_cache.proofs.boxed_entries.BoxedEntries.set_hard_limit.Goals as goal

pub returns-clause-set : goal.returns-clause-set
returns-clause-set g c = λ is m. c.set_hard_limit.ensures.set is m ∙ ap (λ s. state_after g.K.PartialEq.eq s m (Hard c.args.hard)) (c.deref_mut.ensures.value ∙ c.self.view_is)

pub returns-clause-refused : goal.returns-clause-refused
returns-clause-refused g c = λ is. c.set_hard_limit.ensures.refused is ∙ (c.deref_mut.ensures.value ∙ c.self.view_is)

pub returns-clause-holds : goal.returns-clause-holds
returns-clause-holds g c = c.set_hard_limit.ensures.holds ∙ ap (λ (s : State g.row.K.Denot g.row.V.Denot). holds_all c.args.hard s.entries) (c.deref_mut.ensures.value ∙ c.self.view_is)
