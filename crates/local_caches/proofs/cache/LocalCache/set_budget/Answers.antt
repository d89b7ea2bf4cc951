use Rattle.std.proofs.Common.{refl}
use Rattle.local_caches.proofs.Resting.{limits-trim, rest-limits}
use Rattle.flight_cache.specs.Meaning.{entry_cost}
use Rattle.local_caches.proofs.cache.LocalCache.set_budget.Goals as goal

pub invariant_of-self : goal.invariant_of-self
invariant_of-self g c =
    rw (c.set_limits.ensures 0, c.entry_limit.ensures.value) (rest-limits g.M.Key.PartialEq.eq g.met.M.Key.Eq.laws (g.M.Made.meaning.made c.self.inside.tag.value) (entry_cost g.M.Made.meaning) c.self.inside.entries c.self.invariant c.args.budget c.requires)

pub returns-clause-entries : goal.returns-clause-entries
returns-clause-entries g c = rw (← c.self.view_is, c.set_limits.ensures 0, c.entry_limit.ensures.value) refl

pub returns-clause-budget : goal.returns-clause-budget
returns-clause-budget g c = rw (c.set_limits.ensures 0) (limits-trim (record c.self.inside.entries { limit = c.entry_limit.result; budget = c.args.budget })).1
