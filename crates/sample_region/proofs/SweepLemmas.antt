-- The edges that a row crosses.
use Rattle.std.proofs.Common.{◌≡◌, ℕ, ◌+◌, ◌<◌, ◌≤◌, Bool, true, false, cond, ℤ, ◌≤ℤ◌, ◌<ℤ◌, refl, sym, ap, ◌∙◌, arith, int_lt, int_le, List, [], ◌∷◌, ◌++◌, filter, length, get_or, drop, take, All}
use Rattle.std.proofs.lemmas.Int.{ints, by_lt_z}
use Rattle.std.proofs.lemmas.Bool.{and_left}
use Rattle.std.proofs.lemmas.List.{take-append-drop, append-nil, get_or-drop, length-drop}
use Rattle.std.proofs.lemmas.List.Elements.{All-head, All-tail, All-from_get_or, All-take, All-filter, filter-append, filter_passes, All-weaker, All-get_or}
use Rattle.ass_num.specs.Winding.{spans}
use Rattle.sample_region.specs.Edges.{IsEdge, IsOrdered, IsSwept, IsCrossed, unended}
use Rattle.sample_region.specs.declared.edges.SweepEdge.{SweepEdge}
use Rattle.ass_num.proofs.OrderLemmas.{lt_true, lt_false, le_true, le_false, lt_is}

-- tests that agree at each item of a list keep the same items
filter_same_at : {X : Type 0} (p q : X → Bool) (xs : List X) → All (λ x. p x ≡ q x) xs → filter p xs ≡ filter q xs
filter_same_at p q [] h = refl
filter_same_at p q (x ∷ xs) h =
    rw (All-head (λ x. p x ≡ q x) x xs h) (ap (λ ys. cond (q x) (x ∷ ys) ys) (filter_same_at p q xs (All-tail (λ x. p x ≡ q x) x xs h)))

filter_none : {X : Type 0} (p : X → Bool) (xs : List X) → All (λ x. p x ≡ false) xs → filter p xs ≡ []
filter_none p [] h = refl
filter_none p (x ∷ xs) h = rw (All-head (λ x. p x ≡ false) x xs h) (filter_none p xs (All-tail (λ x. p x ≡ false) x xs h))

-- a later row needs nothing that an earlier one has dropped
unended_step : (y z : ℤ) (e : SweepEdge) (es fs : List SweepEdge) → y ≤ℤ z → unended z es ≡ fs → unended z (cond (int_lt y e.lower.y) (e ∷ es) es) ≡ cond (int_lt z e.lower.y) (e ∷ fs) fs
unended_step y z e es fs l h =
    by_lt_z y e.lower.y
    (λ (k : y <ℤ e.lower.y). rw (lt_true y e.lower.y k) (ap (λ gs. cond (int_lt z e.lower.y) (e ∷ gs) gs) h))
    (λ (k : e.lower.y ≤ℤ y). rw (lt_false y e.lower.y k, lt_false z e.lower.y (omega (arith, ints))) h)

pub unended_twice : (y z : ℤ) (es : List SweepEdge) → y ≤ℤ z → unended z (unended y es) ≡ unended z es
unended_twice y z [] l = refl
unended_twice y z (e ∷ es) l = unended_step y z e (unended y es) (unended z es) l (unended_twice y z es l)

-- of edges that have all begun, the row crosses those that haven't ended
begun_crossed : (y : ℤ) (es : List SweepEdge) → All (λ e. e.upper.y ≤ℤ y) es → unended y es ≡ filter (λ (e : SweepEdge). spans e.upper e.lower y) es
begun_crossed y es h =
    filter_same_at (λ (e : SweepEdge). int_lt y e.lower.y) (λ (e : SweepEdge). spans e.upper e.lower y) es
    (All-weaker (λ (e : SweepEdge). e.upper.y ≤ℤ y) (λ (e : SweepEdge). int_lt y e.lower.y ≡ spans e.upper e.lower y) (λ e k. rw (le_true e.upper.y y k) refl) es h)

-- and of those that haven't begun none
pub rest_crossed : (y : ℤ) (es : List SweepEdge) → All (λ e. y <ℤ e.upper.y) es → filter (λ (e : SweepEdge). spans e.upper e.lower y) es ≡ []
rest_crossed y es h =
    filter_none (λ (e : SweepEdge). spans e.upper e.lower y) es
    (All-weaker (λ (e : SweepEdge). y <ℤ e.upper.y) (λ (e : SweepEdge). spans e.upper e.lower y ≡ false) (λ e k. and_left (int_le e.upper.y y) (int_lt y e.lower.y) (le_false e.upper.y y k)) es h)

pub crossed : (y : ℤ) (es : List SweepEdge) (n : ℕ) → All (λ e. e.upper.y ≤ℤ y) (take n es) → All (λ e. y <ℤ e.upper.y) (drop n es) → unended y (take n es) ≡ filter (λ (e : SweepEdge). spans e.upper e.lower y) es
crossed y es n above below =
    let p : SweepEdge → Bool = λ e. spans e.upper e.lower y in
    begun_crossed y (take n es) above ∙ sym (append-nil (filter p (take n es))) ∙ ap (λ fs. filter p (take n es) ++ fs) (sym (rest_crossed y (drop n es) below)) ∙ sym (filter-append p (take n es) (drop n es)) ∙ ap (filter p) (take-append-drop n es)

-- what the walk along a row asks of the edges that it crosses
pub IsCrossed-active : (y : ℤ) (es : List SweepEdge) (n : ℕ) → All IsEdge es → All (λ e. e.upper.y ≤ℤ y) (take n es) → All (IsCrossed y) (unended y (take n es))
IsCrossed-active y es n near above k d l =
    let fs = unended y (take n es) in
    let a : IsEdge (get_or fs k d) = All-get_or IsEdge fs k d l (All-filter (λ (e : SweepEdge). int_lt y e.lower.y) IsEdge (take n es) (All-take IsEdge n es near)) in
    let b : (get_or fs k d).upper.y ≤ℤ y = All-get_or (λ (e : SweepEdge). e.upper.y ≤ℤ y) fs k d l (All-filter (λ (e : SweepEdge). int_lt y e.lower.y) (λ (e : SweepEdge). e.upper.y ≤ℤ y) (take n es) above) in
    let c : int_lt y (get_or fs k d).lower.y ≡ true = All-get_or (λ (e : SweepEdge). int_lt y e.lower.y ≡ true) fs k d l (filter_passes (λ (e : SweepEdge). int_lt y e.lower.y) (take n es)) in
    record { edge = a; begun = b; unended = lt_is y (get_or fs k d).lower.y c }

-- where one edge begins below the row, all later ones do
pub all_below : (y : ℤ) (es : List SweepEdge) (n : ℕ) (d : SweepEdge) → IsOrdered es → n < length es → y <ℤ (get_or es n d).upper.y → All (λ e. y <ℤ e.upper.y) (drop n es)
all_below y es n d up l h =
    All-from_get_or (λ (e : SweepEdge). y <ℤ e.upper.y) (drop n es) d
    (λ k m. let b : k + n < length es = omega (arith, m, length-drop n es) in let u = up n (n + k) d (omega arith) (omega arith) in rw (get_or-drop n es k d) (omega (arith, ints)))

-- ready for any later row
pub swept : (y : ℤ) (es : List SweepEdge) (n : ℕ) (active : List SweepEdge) → active ≡ unended y (take n es) → All (λ e. e.upper.y ≤ℤ y) (take n es) → n ≤ length es → (z : ℤ) → y ≤ℤ z → IsSwept z es n active
swept y es n active a above within z l = record {
  active_is = λ w k. rw a (unended_twice y w (take n es) (omega (arith, ints)));
  above = All-weaker (λ (e : SweepEdge). e.upper.y ≤ℤ y) (λ (e : SweepEdge). e.upper.y ≤ℤ z) (λ e h. omega (arith, ints)) (take n es) above;
  within = within;
}
