-- Edges in the order of their ends.
use Rattle.std.proofs.Common.{Ordering, Less, Equal, Greater, ◌≡◌, inl, inr, Bool, true, false, cond, ℤ, List, get_or, refl, sym, ap, ◌∙◌, ◌<ℤ◌, ◌≤ℤ◌, arith, IsSortedByKey}
use Rattle.std.proofs.lemmas.Int.{ints, by_lt_z}
use Rattle.std.proofs.lemmas.Cmp.{int_cmp_total, on_total, then_total}
use Rattle.std.proofs.lemmas.List.Sorted.{sorted_far, ranks_by, answers_always}
use Rattle.std.specs.Cmp.{IsTotalOrder}
use Rattle.std.specs.Ordering.{int_cmp, is_lt, ordering_then, ordering_reverse}
use Rattle.std.specs.Fn.{ComputesKey, Called}
use denote.Param.Members.{Mut}
use denote.Ref.{Bor}
use Rattle.ass_num.specs.declared.geometry.Point.{Point}
use Rattle.cancelled_edges.specs.Edges.{is_before, ends_of, HaveSameEnds, IsGrouped}
use Rattle.cancelled_edges.specs.declared.edges.Edge.{Edge}
use Rattle.cancelled_edges.proofs.BalanceLemmas.{point_of, same_from_parts}

abbrev pub Ends : Type 0
Ends = ℤ × ℤ × ℤ × ℤ

abbrev pub ends_cmp : Ends → Ends → Ordering
ends_cmp x y = ordering_then (ordering_then (ordering_then (int_cmp x.0 y.0) (int_cmp x.1 y.1)) (int_cmp x.2 y.2)) (int_cmp x.3 y.3)

pub ends_total : IsTotalOrder ends_cmp
ends_total = then_total (then_total (then_total (on_total (λ (t : Ends). t.0) int_cmp_total) (on_total (λ (t : Ends). t.1) int_cmp_total)) (on_total (λ (t : Ends). t.2) int_cmp_total)) (on_total (λ (t : Ends). t.3) int_cmp_total)

tied_parts : (o p : Ordering) → ordering_then o p ≡ Equal → (o ≡ Equal) × (p ≡ Equal)
tied_parts Less p h = absurd (cc)
tied_parts Equal p h = (refl, h)
tied_parts Greater p h = absurd (cc)

int_tied : (a b : ℤ) → int_cmp a b ≡ Equal → a ≡ b
int_tied a b h = grind (arith, ints)

ends_tied : (x y : Ends) → ends_cmp x y ≡ Equal → x ≡ y
ends_tied x y h =
    let p = tied_parts (ordering_then (ordering_then (int_cmp x.0 y.0) (int_cmp x.1 y.1)) (int_cmp x.2 y.2)) (int_cmp x.3 y.3) h in
    let q = tied_parts (ordering_then (int_cmp x.0 y.0) (int_cmp x.1 y.1)) (int_cmp x.2 y.2) p.0 in
    let r = tied_parts (int_cmp x.0 y.0) (int_cmp x.1 y.1) q.0 in
    ap (λ t. (t, x.1, x.2, x.3)) (int_tied x.0 y.0 r.0) ∙ ap (λ t. (y.0, t, x.2, x.3)) (int_tied x.1 y.1 r.1) ∙ ap (λ t. (y.0, y.1, t, x.3)) (int_tied x.2 y.2 q.1) ∙ ap (λ t. (y.0, y.1, y.2, t)) (int_tied x.3 y.3 p.1)

-- neither comes before the other
neither : (o p : Ordering) → o ≡ ordering_reverse p → is_lt o ≡ false → is_lt p ≡ false → o ≡ Equal
neither Less p h k l = absurd (cc)
neither Equal p h k l = refl
neither Greater Less h k l = absurd (cc)
neither Greater Equal h k l = absurd (cc)
neither Greater Greater h k l = absurd (cc)

abbrev ends_at : Bool → Point → Point → Ends
ends_at b p q = cond b (p.x, p.y, q.x, q.y) (q.x, q.y, p.x, p.y)

-- Edges with the same ends in order are the same, or opposite.
same_from_ends : (d e : Edge) (b c : Bool) → ends_at b d.from d.to ≡ ends_at c e.from e.to → HaveSameEnds d e
same_from_ends d e true true h = inl (ap (λ (t : Ends). (point_of t.0 t.1, point_of t.2 t.3)) h)
same_from_ends d e true false h = inr (ap (λ (t : Ends). (point_of t.0 t.1, point_of t.2 t.3)) h)
same_from_ends d e false true h = inr (ap (λ (t : Ends). (point_of t.2 t.3, point_of t.0 t.1)) h)
same_from_ends d e false false h = inl (ap (λ (t : Ends). (point_of t.2 t.3, point_of t.0 t.1)) h)

before_left : (p q : Point) → p.x <ℤ q.x → (is_before p q ≡ true) × (is_before q p ≡ false)
before_left p q h = (grind (arith, ints), grind (arith, ints))

before_above : (p q : Point) → p.x ≡ q.x → p.y <ℤ q.y → (is_before p q ≡ true) × (is_before q p ≡ false)
before_above p q e h = (grind (arith, ints), grind (arith, ints))

-- The order of two points doesn't count.
before_both : (p q : Point) → ends_at (is_before p q) p q ≡ ends_at (is_before q p) q p
before_both p q =
    by_lt_z p.x q.x
    (λ (h : p.x <ℤ q.x). let r = before_left p q h in rw (r.0, r.1) refl)
    (λ (h : q.x ≤ℤ p.x). by_lt_z q.x p.x
    (λ (k : q.x <ℤ p.x). let r = before_left q p k in rw (r.0, r.1) refl)
    (λ (k : p.x ≤ℤ q.x).
    let e : p.x ≡ q.x = omega (arith, ints) in
    by_lt_z p.y q.y
    (λ (u : p.y <ℤ q.y). let r = before_above p q e u in rw (r.0, r.1) refl)
    (λ (u : q.y ≤ℤ p.y). by_lt_z q.y p.y
    (λ (v : q.y <ℤ p.y). let r = before_above q p (sym e) v in rw (r.0, r.1) refl)
    (λ (v : p.y ≤ℤ q.y).
    let y : p.y ≡ q.y = omega (arith, ints) in
    let same = same_from_parts p q e y in
    ap (λ z. ends_at (is_before z q) z q) same ∙ ap (λ z. ends_at (is_before q z) q z) (sym same)))))

pub ends_same : (d e : Edge) → HaveSameEnds d e → ends_of d ≡ ends_of e
ends_same d e (inl same) = ap (λ (w : Point × Point). ends_at (is_before w.0 w.1) w.0 w.1) same
ends_same d e (inr other) = ap (λ (w : Point × Point). ends_at (is_before w.0 w.1) w.0 w.1) other ∙ before_both e.to e.from

pub grouped_from_sort : {F : Type 0} {g : Mut F (Bor Edge × Unit {0}) Ends} {f : F} (xs : List Edge)
    → ((k : Edge → Ends) → ComputesKey g k f → IsSortedByKey k ends_cmp xs)
    → ((f : F) (a : Bor Edge × Unit {0}) (r : Ends) (f' : F) → Called g f a r f' → r ≡ ends_of a.0.now) → IsGrouped xs
grouped_from_sort {g = g} {f = f} xs up h i j k d first second within ends =
    let sorted = up ends_of (answers_always g (λ a r. r ≡ ends_of a.0.now) f h) in
    let lt = λ (x : Edge) (y : Edge). is_lt (ends_cmp (ends_of x) (ends_of y)) in
    let a = sorted_far lt (ranks_by ends_total ends_of) xs sorted i j d first (omega arith) in
    let b = sorted_far lt (ranks_by ends_total ends_of) xs sorted j k d second within in
    let same : ends_of (get_or xs i d) ≡ ends_of (get_or xs k d) = ends_same (get_or xs i d) (get_or xs k d) ends in
    let c : is_lt (ends_cmp (ends_of (get_or xs j d)) (ends_of (get_or xs k d))) ≡ false = ap (λ t. is_lt (ends_cmp (ends_of (get_or xs j d)) t)) (sym same) ∙ a in
    let tied = neither (ends_cmp (ends_of (get_or xs j d)) (ends_of (get_or xs k d))) (ends_cmp (ends_of (get_or xs k d)) (ends_of (get_or xs j d))) (ends_total.antisymm (ends_of (get_or xs j d)) (ends_of (get_or xs k d))) c b in
    same_from_ends (get_or xs j d) (get_or xs k d) (is_before (get_or xs j d).from (get_or xs j d).to) (is_before (get_or xs k d).from (get_or xs k d).to)
    (ends_tied (ends_of (get_or xs j d)) (ends_of (get_or xs k d)) tied)
