use Rattle.std.proofs.Common.{refl, sym, ap}
use Rattle.std.specs.Arc.{arc_value}
use Rattle.evict_core.specs.Asked.{ready_value}
use Rattle.evict_core.proofs.StateLemmas.{claim-has-room}
use Rattle.local_caches.proofs.Resting.{found-value, hit-pinned, limits-hit, never-crowded, never-flying, rest-hit}
use Rattle.flight_cache.specs.Meaning.{entry_cost}
use Rattle.local_caches.proofs.cache.LocalCache.find.Goals as goal

pub unpin-requires : goal.unpin-requires
unpin-requires g c =
    rw (c.in-Hit.ensures.2 0) (hit-pinned g.M.Key.PartialEq.eq g.met.M.Key.Eq.laws (g.M.Made.meaning.made c.self.inside.tag.value) (entry_cost g.M.Made.meaning) c.self.inside.entries c.self.invariant c.args.key.now c.in-Hit.ensures.0)

pub invariant_of-self : goal.invariant_of-self
invariant_of-self g c =
    rw (c.unpin.ensures 0, c.in-Hit.ensures.2 0) (rest-hit g.M.Key.PartialEq.eq g.met.M.Key.Eq.laws (g.M.Made.meaning.made c.self.inside.tag.value) (entry_cost g.M.Made.meaning) c.self.inside.entries c.self.invariant c.args.key.now c.in-Hit.ensures.0)

pub invariant_of-self-in-Claimable : goal.invariant_of-self-in-Claimable
invariant_of-self-in-Claimable g c = rw c.in-Claimable.ensures.1 c.self.invariant

pub invariant_of-self-in-Flying : goal.invariant_of-self-in-Flying
invariant_of-self-in-Flying g c = rw c.in-Flying.ensures.1 c.self.invariant

pub invariant_of-self-in-Crowded : goal.invariant_of-self-in-Crowded
invariant_of-self-in-Crowded g c =
    absurd (never-crowded g.M.Key.PartialEq.eq g.met.M.Key.Eq.laws (g.M.Made.meaning.made c.self.inside.tag.value) (entry_cost g.M.Made.meaning) c.self.inside.entries c.self.invariant c.args.key.now c.in-Crowded.ensures.0)

pub invariant_of-self-in-OutOfMemory : goal.invariant_of-self-in-OutOfMemory
invariant_of-self-in-OutOfMemory g c = rw c.in-OutOfMemory.ensures.1 c.self.invariant

pub returns-in-Hit-clause-here : goal.returns-in-Hit-clause-here
returns-in-Hit-clause-here g c = rw (← c.self.view_is) (sym c.in-Hit.ensures.1)

pub returns-in-Hit-clause-value : goal.returns-in-Hit-clause-value
returns-in-Hit-clause-value g c =
    rw (← c.self.view_is) (found-value g.M.Key.PartialEq.eq g.met.M.Key.Eq.laws (g.M.Made.meaning.made c.self.inside.tag.value) (entry_cost g.M.Made.meaning) c.self.inside.entries c.self.invariant c.args.key.now (arc_value c.in-Hit.value) c.in-Hit.ensures.1)

pub returns-in-Hit-clause-entries : goal.returns-in-Hit-clause-entries
returns-in-Hit-clause-entries g c = rw (← c.self.view_is, c.unpin.ensures 0, c.in-Hit.ensures.2 0) refl

pub returns-in-Hit-clause-budget : goal.returns-in-Hit-clause-budget
returns-in-Hit-clause-budget g c = rw (← c.self.view_is, c.unpin.ensures 0, c.in-Hit.ensures.2 0) (limits-hit g.M.Key.PartialEq.eq c.self.inside.entries c.args.key.now).1

pub returns-in-Claimable-clause-here : goal.returns-in-Claimable-clause-here
returns-in-Claimable-clause-here g c =
    rw (← c.self.view_is) (sym (ap ready_value (claim-has-room g.M.Key.PartialEq.eq g.met.M.Key.Eq.laws c.self.inside.entries c.args.key.now c.in-Claimable.ensures.0).0))

pub returns-in-Claimable-clause-absent : goal.returns-in-Claimable-clause-absent
returns-in-Claimable-clause-absent g c = rw (← c.self.view_is) (claim-has-room g.M.Key.PartialEq.eq g.met.M.Key.Eq.laws c.self.inside.entries c.args.key.now c.in-Claimable.ensures.0).0

pub returns-in-Flying-clause-here : goal.returns-in-Flying-clause-here
returns-in-Flying-clause-here g c =
    absurd (never-flying g.M.Key.PartialEq.eq g.met.M.Key.Eq.laws (g.M.Made.meaning.made c.self.inside.tag.value) (entry_cost g.M.Made.meaning) c.self.inside.entries c.self.invariant c.args.key.now c.in-Flying.field-0 c.in-Flying.ensures.0)

pub returns-in-Flying-clause-absent : goal.returns-in-Flying-clause-absent
returns-in-Flying-clause-absent g c =
    absurd (never-flying g.M.Key.PartialEq.eq g.met.M.Key.Eq.laws (g.M.Made.meaning.made c.self.inside.tag.value) (entry_cost g.M.Made.meaning) c.self.inside.entries c.self.invariant c.args.key.now c.in-Flying.field-0 c.in-Flying.ensures.0)

pub returns-in-Crowded-clause-here : goal.returns-in-Crowded-clause-here
returns-in-Crowded-clause-here g c =
    absurd (never-crowded g.M.Key.PartialEq.eq g.met.M.Key.Eq.laws (g.M.Made.meaning.made c.self.inside.tag.value) (entry_cost g.M.Made.meaning) c.self.inside.entries c.self.invariant c.args.key.now c.in-Crowded.ensures.0)

pub returns-in-Crowded-clause-absent : goal.returns-in-Crowded-clause-absent
returns-in-Crowded-clause-absent g c =
    absurd (never-crowded g.M.Key.PartialEq.eq g.met.M.Key.Eq.laws (g.M.Made.meaning.made c.self.inside.tag.value) (entry_cost g.M.Made.meaning) c.self.inside.entries c.self.invariant c.args.key.now c.in-Crowded.ensures.0)

pub returns-in-Crowded-clause-entries : goal.returns-in-Crowded-clause-entries
returns-in-Crowded-clause-entries g c =
    absurd (never-crowded g.M.Key.PartialEq.eq g.met.M.Key.Eq.laws (g.M.Made.meaning.made c.self.inside.tag.value) (entry_cost g.M.Made.meaning) c.self.inside.entries c.self.invariant c.args.key.now c.in-Crowded.ensures.0)

pub returns-in-Crowded-clause-budget : goal.returns-in-Crowded-clause-budget
returns-in-Crowded-clause-budget g c =
    absurd (never-crowded g.M.Key.PartialEq.eq g.met.M.Key.Eq.laws (g.M.Made.meaning.made c.self.inside.tag.value) (entry_cost g.M.Made.meaning) c.self.inside.entries c.self.invariant c.args.key.now c.in-Crowded.ensures.0)

pub returns-in-Claimable-clause-entries : goal.returns-in-Claimable-clause-entries
returns-in-Claimable-clause-entries g c = rw (← c.self.view_is) c.in-Claimable.ensures.1

pub returns-in-Claimable-clause-budget : goal.returns-in-Claimable-clause-budget
returns-in-Claimable-clause-budget g c = rw (← c.self.view_is, c.in-Claimable.ensures.1) refl

pub returns-in-Flying-clause-entries : goal.returns-in-Flying-clause-entries
returns-in-Flying-clause-entries g c = rw (← c.self.view_is) c.in-Flying.ensures.1

pub returns-in-Flying-clause-budget : goal.returns-in-Flying-clause-budget
returns-in-Flying-clause-budget g c = rw (← c.self.view_is, c.in-Flying.ensures.1) refl

pub returns-in-OutOfMemory-clause-budget : goal.returns-in-OutOfMemory-clause-budget
returns-in-OutOfMemory-clause-budget g c = rw (← c.self.view_is, c.in-OutOfMemory.ensures.1) refl

pub returns-in-OutOfMemory-clause-err : goal.returns-in-OutOfMemory-clause-err
returns-in-OutOfMemory-clause-err g c = rw c.in-OutOfMemory.ensures.1 c.self.view_is

pub returns-in-Hit-clause-tag : goal.returns-in-Hit-clause-tag
returns-in-Hit-clause-tag g c = rw (← c.self.view_is) refl

pub returns-in-Claimable-clause-tag : goal.returns-in-Claimable-clause-tag
returns-in-Claimable-clause-tag g c = rw (← c.self.view_is) refl

pub returns-in-Flying-clause-tag : goal.returns-in-Flying-clause-tag
returns-in-Flying-clause-tag g c = rw (← c.self.view_is) refl

pub returns-in-Crowded-clause-tag : goal.returns-in-Crowded-clause-tag
returns-in-Crowded-clause-tag g c = rw (← c.self.view_is) refl

pub returns-in-OutOfMemory-clause-tag : goal.returns-in-OutOfMemory-clause-tag
returns-in-OutOfMemory-clause-tag g c = rw (← c.self.view_is) refl
