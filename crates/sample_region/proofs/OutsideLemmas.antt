-- No sample above or below all points is inside.
use Rattle.std.proofs.Common.{◌≡◌, Bool, false, cond, ◌⊎◌, ⊎_elim, inl, inr, ℤ, ◌-ℤ◌, ◌*ℤ◌, ◌≤ℤ◌, ◌<ℤ◌, refl, ◌∙◌, arith, int_lt, int_le, List, [], ◌∷◌, All, count_by}
use Rattle.std.proofs.lemmas.Int.{ints, by_lt_z}
use Rattle.std.proofs.lemmas.Bool.{and_left, and_right}
use Rattle.std.proofs.lemmas.List.Sums.{sum_by-cons}
use Rattle.std.proofs.lemmas.List.Elements.{All-head, All-tail, All-cons, All-nil, All-append}
use Rattle.ass_num.proofs.OrderLemmas.{lt_false, le_false}
use Rattle.ass_num.specs.Winding.{place, spans, counts, line, edges, edges_of, inside}
use Rattle.sample_region.specs.Heights.{IsHeightBetween}
use Rattle.sample_region.proofs.WindingLemmas.{Way}
use Rattle.ass_num.specs.declared.geometry.Point.{Point}

abbrev pub Ends : (Point → Type 0) → Way → Type 0
Ends P e = P e.0 × P e.1

line_ends : (P : Point → Type 0) (p : Point) (rest : List Point) (last : Point) → P p → All P rest → P last → All (Ends P) (line p rest last)
line_ends P p [] last a h b = All-cons (Ends P) (p, last) [] (a, b) (All-nil (Ends P))
line_ends P p (q ∷ rest) last a h b = let c = All-head P q rest h in All-cons (Ends P) (p, q) (line q rest last) (a, c) (line_ends P q rest last c (All-tail P q rest h) b)

ring_ends : (P : Point → Type 0) (ring : List Point) → All P ring → All (Ends P) (edges ring)
ring_ends P [] h = All-nil (Ends P)
ring_ends P (p ∷ rest) h = let a = All-head P p rest h in line_ends P p rest p a (All-tail P p rest h) a

pub rings_ends : (P : Point → Type 0) (rings : List (List Point)) → All (All P) rings → All (Ends P) (edges_of rings)
rings_ends P [] h = All-nil (Ends P)
rings_ends P (r ∷ rings) h = All-append (Ends P) (edges r) (edges_of rings) (ring_ends P r (All-head (All P) r rings h)) (rings_ends P rings (All-tail (All P) r rings h))

none_counted : (P : Point → Type 0) (t : Way → Bool) → ((e : Way) → Ends P e → t e ≡ false) → (es : List Way) → All (Ends P) es → count_by t es ≡ 0
none_counted P t f [] h = refl
none_counted P t f (e ∷ es) h = sum_by-cons (λ (e : Way). cond (t e) 1 0) e es ∙ rw (f e (All-head (Ends P) e es h), none_counted P t f es (All-tail (Ends P) e es h)) refl

spans_none : (low high y : ℤ) (a b : Point) → IsHeightBetween low high a → IsHeightBetween low high b → (y <ℤ low) ⊎ (high ≤ℤ y) → spans a b y ≡ false
spans_none low high y a b ha hb o =
    let a0 = ha.0 in
    let b1 = hb.1 in
    ⊎_elim (λ (l : y <ℤ low). and_left (int_le a.y y) (int_lt y b.y) (le_false a.y y (omega (arith, ints))))
    (λ (l : high ≤ℤ y). and_right (int_le a.y y) (int_lt y b.y) (lt_false y b.y (omega (arith, ints)))) o

counts_none : (low high x y : ℤ) (a b : Point) → IsHeightBetween low high a → IsHeightBetween low high b → (y <ℤ low) ⊎ (high ≤ℤ y) → counts a b x y ≡ false
counts_none low high x y a b ha hb o = and_left (spans a b y) (int_lt ((x -ℤ a.x) *ℤ (b.y -ℤ a.y)) ((b.x -ℤ a.x) *ℤ (y -ℤ a.y))) (spans_none low high y a b ha hb o)

pub outside : (low high : ℤ) (rings : List (List Point)) → All (All (IsHeightBetween low high)) rings → (i j : ℤ) → (place j <ℤ low) ⊎ (high ≤ℤ place j) → inside rings i j ≡ false
outside low high rings h i j o =
    let P : Point → Type 0 = IsHeightBetween low high in
    let all = rings_ends P rings h in
    let a : count_by (λ (e : Way). counts e.0 e.1 (place i) (place j)) (edges_of rings) ≡ 0 = none_counted P (λ (e : Way). counts e.0 e.1 (place i) (place j)) (λ e b. counts_none low high (place i) (place j) e.0 e.1 b.0 b.1 o) (edges_of rings) all in
    let b : count_by (λ (e : Way). counts e.1 e.0 (place i) (place j)) (edges_of rings) ≡ 0 = none_counted P (λ (e : Way). counts e.1 e.0 (place i) (place j)) (λ e b. counts_none low high (place i) (place j) e.1 e.0 b.1 b.0 o) (edges_of rings) all in
    rw (a, b) refl

-- without points no sample is inside
pub outside_all : (low high : ℤ) (rings : List (List Point)) → All (All (IsHeightBetween low high)) rings → high <ℤ low → (i j : ℤ) → inside rings i j ≡ false
outside_all low high rings h l i j = outside low high rings h i j (by_lt_z (place j) low (λ (k : place j <ℤ low). inl k) (λ (k : low ≤ℤ place j). inr (omega (arith, ints))))
