use Rattle.std.proofs.Common.{refl, ap, ◌∙◌}
use Rattle.local_caches.proofs.Resting.{absent-claims, filled-pinned, limits-fill, rest-fill}
use Rattle.flight_cache.specs.Meaning.{entry_cost}
use Rattle.local_caches.proofs.cache.LocalCache.put.Goals as goal

pub claim-requires : goal.claim-requires
claim-requires g c =
    rw c.in_ok-copy.ensures (absent-claims g.M.Key.PartialEq.eq g.met.M.Key.Eq.laws (g.M.Made.meaning.made c.self.inside.tag.value) (entry_cost g.M.Made.meaning) c.self.inside.entries c.self.invariant c.args.key.now (rw (← c.self.view_is) at c.requires.absent))

pub invariant_of-self : goal.invariant_of-self
invariant_of-self g c = rw c.in_err-claim.ensures.err c.self.invariant

pub returns-in_err-claim-clause-tag : goal.returns-in_err-claim-clause-tag
returns-in_err-claim-clause-tag g c = rw (← c.self.view_is) refl

pub returns-in_err-claim-clause-budget : goal.returns-in_err-claim-clause-budget
returns-in_err-claim-clause-budget g c = rw (← c.self.view_is, c.in_err-claim.ensures.err) refl

pub fill-requires-clause-flying : goal.fill-requires-clause-flying
fill-requires-clause-flying g c = rw (c.in_ok-claim.ensures.ok, c.in_ok-copy.ensures, g.met.M.Key.Eq.laws.refl c.args.key.now) refl

pub unpin-requires : goal.unpin-requires
unpin-requires g c =
    rw (c.fill.ensures 0, c.in_ok-claim.ensures.ok, c.in_ok-copy.ensures) (filled-pinned g.M.Key.PartialEq.eq g.met.M.Key.Eq.laws (g.M.Made.meaning.made c.self.inside.tag.value) (entry_cost g.M.Made.meaning) c.self.inside.entries c.self.invariant c.args.key.now (absent-claims g.M.Key.PartialEq.eq g.met.M.Key.Eq.laws (g.M.Made.meaning.made c.self.inside.tag.value) (entry_cost g.M.Made.meaning) c.self.inside.entries c.self.invariant c.args.key.now (rw (← c.self.view_is) at c.requires.absent)) _ _)

pub invariant_of-self-2 : goal.invariant_of-self-2
invariant_of-self-2 g c =
    rw (c.unpin.ensures 0, c.fill.ensures 0, c.in_ok-claim.ensures.ok, c.in_ok-copy.ensures) (rest-fill g.M.Key.PartialEq.eq g.met.M.Key.Eq.laws (g.M.Made.meaning.made c.self.inside.tag.value) (entry_cost g.M.Made.meaning) c.self.inside.entries c.self.invariant c.args.key.now (absent-claims g.M.Key.PartialEq.eq g.met.M.Key.Eq.laws (g.M.Made.meaning.made c.self.inside.tag.value) (entry_cost g.M.Made.meaning) c.self.inside.entries c.self.invariant c.args.key.now (rw (← c.self.view_is) at c.requires.absent)) _ _ g.met.M.Made.same_key (c.entry_cost-cost.ensures ∙ ap (entry_cost g.M.Made.meaning c.args.key.now) c.deref.ensures) (c.in_ok-kept.ensures ∙ (rw (← c.self.view_is) at c.requires.value)))

pub returns-clause-entries : goal.returns-clause-entries
returns-clause-entries g c = rw (← c.self.view_is, c.unpin.ensures 0, c.fill.ensures 0, c.in_ok-claim.ensures.ok, c.in_ok-copy.ensures, c.entry_cost-cost.ensures, c.deref.ensures, c.in_ok-kept.ensures) refl

pub returns-clause-tag : goal.returns-clause-tag
returns-clause-tag g c = rw (← c.self.view_is) refl

pub returns-clause-budget : goal.returns-clause-budget
returns-clause-budget g c =
    rw (← c.self.view_is, c.unpin.ensures 0, c.fill.ensures 0, c.in_ok-claim.ensures.ok, c.in_ok-copy.ensures) (limits-fill g.M.Key.PartialEq.eq c.self.inside.entries c.args.key.now _ _).1
