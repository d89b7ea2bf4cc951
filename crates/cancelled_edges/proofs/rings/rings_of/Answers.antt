use Rattle.std.proofs.Common.{rules, subst, sym, ◌≡◌, ◌∙◌, ap, arith, length, replicate, false, true, Bool, ℕ, ◌+◌, ◌++◌, ◌∷◌, [], get_or, sum_by, Vec, Global}
use Rattle.std.proofs.lemmas.List.{with_items_is}
use Rattle.ass_num.specs.Winding.{edges}
use Rattle.ass_num.specs.declared.geometry.Point.{Point}
use Rattle.cancelled_edges.specs.Edges.{IsClosed}
use Rattle.cancelled_edges.specs.Walks.{IsNext, IsTakenWhole, untaken_sum}
use Rattle.cancelled_edges.proofs.WalkLemmas.{rings_none, rings_skip, rings_more, rings_whole, closed_moved}
use Rattle.cancelled_edges.proofs.rings.rings_of.Goals.{then-not-index+in_ok-walk+in_ok-push, else-not-index}
use Rattle.cancelled_edges.proofs.rings.rings_of.Goals as goal

pub next_edges-requires-clause-closed : goal.next_edges-requires-clause-closed
next_edges-requires-clause-closed c = subst IsClosed (sym c.as_slice.ensures.value) (closed_moved c.args.edges.items c.sort_by_end.new.edges.items c.sort_by_end.ensures.permutation c.requires)

pub loop-first-init : goal.loop-first-init
loop-first-init c =
    let es = c.sort_by_end.new.edges.items in
    let next : IsNext es c.in_ok-next.next.items = rw (← c.as_slice.ensures.value) c.in_ok-next.ensures in
    let long : c.len.result ≡ length es = search rules in
    let untaken : c.in_ok-taken.taken.items ≡ replicate (length es) false = c.in_ok-taken.ensures.items_if_clones_equal (λ z e. e) ∙ ap (λ n. replicate n false) long in
    (rings_none es c.in_ok-next.next.items c.in_ok-taken.taken.items _ next untaken c.new-rings.ensures, c.in_ok-ring.ensures.items)

pub loop-first-preserved : goal.loop-first-preserved
loop-first-preserved c =
    let es = c.sort_by_end.new.edges.items in
    let next = c.in_ok-next.next.items in
    let first = c.loop-first.first in
    let before = c.loop-first.taken.items in
    let rings = c.loop-first.rings in
    elim c.if-not-index.branch [
      | then-not-index+in_ok-walk+in_ok-push w ↦
          let after = w.walk.new.taken in
          let whole : IsTakenWhole next after = rw w.as_slice-then-not-index-2.ensures.value at w.in_ok-walk.ensures.whole in
          let sums : (f : Point × Point → ℕ) → sum_by f (edges w.walk.new.ring.items) + untaken_sum f es after ≡ untaken_sum f es before =
          rw (w.as_slice-then-not-index.ensures.value, w.as_mut_slice.ensures.value) at w.in_ok-walk.ensures.sums in
          let kept : (k : ℕ) → get_or before k true ≡ true → get_or after k true ≡ true = rw w.as_mut_slice.ensures.value at w.in_ok-walk.ensures.kept in
          let pushed : w.push.new.self ≡ rings ++ w.walk.new.ring.items ∷ [] = rw w.as_slice-then-not-index-3.ensures.value at w.in_ok-push.ensures.ok in
          let long : length after ≡ c.loop-first.taken.len = omega (arith, w.walk.auto.taken, w.as_mut_slice.ensures.len) in
          let same : c.if-not-index.taken.items ≡ after = ap (λ (v : Vec Bool Global). v.items) w.taken-is ∙ with_items_is c.loop-first.taken after long in
          let made = rings_more es next first before after rings w.push.new.self w.walk.new.ring.items c.loop-first.invariant.0 whole sums kept w.in_ok-walk.ensures.first pushed in
          (rw (same, w.rings-is) made, ap (λ (v : Vec Point Global). v.items) w.ring-is ∙ w.clear.ensures.items)
      | else-not-index w ↦
          let here : get_or before first true ≡ true = search rules in
          (rw (w.taken-is, w.rings-is) (rings_skip es next first before rings c.loop-first.invariant.0 here), ap (λ (v : Vec Point Global). v.items) w.ring-is ∙ c.loop-first.invariant.1)
    ]

pub returns : goal.returns
returns c =
    rings_whole c.args.edges.items c.sort_by_end.new.edges.items c.in_ok-next.next.items c.loop-first.first c.loop-first.taken.items _ c.sort_by_end.ensures.permutation c.loop-first.invariant.0 (search rules)
