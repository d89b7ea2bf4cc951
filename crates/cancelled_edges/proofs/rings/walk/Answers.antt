use Rattle.cancelled_edges.proofs.WalkLemmas.{walk_goes_on, fewer_free, whole_at_end, sums_at_end}
use Rattle.cancelled_edges.proofs.rings.walk.Goals as goal

pub returns-then-place-first-clause-whole : goal.returns-then-place-first-clause-whole
returns-then-place-first-clause-whole c = whole_at_end _ _ _ _ _ c.loop-place.place _ c.requires.next c.loop-place.invariant c.if-place-first.true

pub returns-then-place-first-clause-sums : goal.returns-then-place-first-clause-sums
returns-then-place-first-clause-sums c = sums_at_end _ _ _ _ _ c.loop-place.place _ _ _ c.requires.next c.loop-place.invariant c.in_ok-push.ensures.items c.if-place-first.true

pub loop-place-smaller : goal.loop-place-smaller
loop-place-smaller c = fewer_free _ _ _ _ _ _ _ c.loop-place.invariant

pub loop-place-preserved : goal.loop-place-preserved
loop-place-preserved c = walk_goes_on _ _ _ _ _ _ _ _ _ c.requires.next c.loop-place.invariant c.in_ok-push.ensures.items c.if-place-first.false
