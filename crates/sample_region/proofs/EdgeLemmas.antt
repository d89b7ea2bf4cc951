-- The edges that the sweep takes, and the ways round the rings that they come from.
use Rattle.std.proofs.Common.{◌≡◌, ℕ, ◌+◌, ◌<◌, ◌≤◌, Bool, true, false, not, cond, ◌&&◌, ℤ, refl, sym, ap, ◌∙◌, arith, int_lt, int_le, List, [], ◌∷◌, ◌++◌, map, filter, length, get_or, drop, All, sum_by, flat_map, IsPermutation, append_assoc}
use Rattle.std.proofs.lemmas.Int.{ints}
use Rattle.std.proofs.lemmas.List.{drop_more, drop_all, append-nil}
use Rattle.std.proofs.lemmas.Bool.{false≢true, cond_both}
use Rattle.std.proofs.lemmas.List.Sums.{sum_by-cons}
use Rattle.std.proofs.lemmas.List.Sorted.{sum_by-IsPermutation, All-permutation}
use Rattle.std.proofs.lemmas.List.Elements.{All-head, All-tail, All-nil, All-cons, All-append}
use Rattle.ass_num.specs.Limits.{IsOutlinePoint, IsOutline}
use Rattle.ass_num.specs.Winding.{place, spans, line, edges_of, inside}
use Rattle.ass_num.specs.declared.geometry.Point.{Point}
use Rattle.sample_region.specs.Crossings.{crossing_at, row_crossings, downs, ups, downs_to, ups_to, is_odd, is_inside, cut_of, IsSweepable}
use Rattle.sample_region.specs.Edges.{down_from, IsEdge, IsOrdered}
use Rattle.region_rows.specs.Growths.{IsRowHolding}
use Rattle.sample_region.specs.Rows.{IsRowOf}
use Rattle.ass_num.specs.declared.region.Run.{Run}
use Rattle.sample_region.specs.declared.edges.SweepEdge.{SweepEdge}
use Rattle.sample_region.specs.declared.sweep.Crossing.{Crossing}
use Rattle.sample_region.proofs.OutsideLemmas.{Ends, rings_ends}
use Rattle.ass_num.proofs.OrderLemmas.{lt_true, lt_false, lt_is}
use Rattle.sample_region.proofs.WindingLemmas.{Way, crossing_of, crossings_of, SameSums, flat_sums, even, inside_is, spans_parts}

-- ---- a ring, edge by edge
pub line_more : (items : List SweepEdge) (last first : Point) (rest : List Point) (k : ℕ) (d p : Point) → k < length rest → p ≡ get_or rest k d
    → (items ++ down_from (last, p)) ++ flat_map down_from (line p (drop (k + 1) rest) first) ≡ items ++ flat_map down_from (line last (drop k rest) first)
line_more items last first rest k d p h e =
    rw (drop_more rest k d h, ← e) (append_assoc items (down_from (last, p)) (flat_map down_from (line p (drop (k + 1) rest) first)))

pub line_all : (items : List SweepEdge) (last first : Point) (rest : List Point) (k : ℕ) → length rest ≤ k
    → items ++ down_from (last, first) ≡ items ++ flat_map down_from (line last (drop k rest) first)
line_all items last first rest k h = rw (drop_all k rest h) (ap (λ xs. items ++ xs) (sym (append-nil (down_from (last, first)))))

-- a ring that isn't empty is its first point and the rest
pub ring_of : (ring : List Point) (d : Point) → 0 < length ring → ring ≡ get_or ring 0 d ∷ drop 1 ring
ring_of [] d h = absurd (omega arith)
ring_of (p ∷ ring) d h = refl

-- ---- sums over the crossings of a row
abbrev weight : ℤ → (Crossing → ℕ) → SweepEdge → ℕ
weight y g e = cond (spans e.upper e.lower y) (g (crossing_at y e)) 0

row_step : (g : Crossing → ℕ) (f : SweepEdge → Crossing) (b : Bool) (e : SweepEdge) (rest : List SweepEdge) → sum_by g (map f (cond b (e ∷ rest) rest)) ≡ cond b (g (f e)) 0 + sum_by g (map f rest)
row_step g f true e rest = sum_by-cons g (f e) (map f rest)
row_step g f false e rest = omega arith

row_sum : (y : ℤ) (g : Crossing → ℕ) (es : List SweepEdge) → sum_by g (row_crossings y es) ≡ sum_by (weight y g) es
row_sum y g [] = refl
row_sum y g (e ∷ es) =
    row_step g (crossing_at y) (spans e.upper e.lower y) e (filter (λ (e : SweepEdge). spans e.upper e.lower y) es) ∙ rw (row_sum y g es) (sym (sum_by-cons (weight y g) e es))

single : {X : Type 0} (w : X → ℕ) (x : X) → sum_by w (x ∷ []) ≡ w x
single w x = sum_by-cons w x [] ∙ omega arith

-- an edge from one end or the other, and its crossing
pair_step : (w : SweepEdge → ℕ) (g : Crossing → ℕ) (e f : SweepEdge) (c d : Crossing) (a b s t : Bool) → w e ≡ cond s (g c) 0 → w f ≡ cond t (g d) 0 → (s ≡ true → a ≡ true) → (t ≡ true → b ≡ true) → (a ≡ true → b ≡ false)
    → sum_by w (cond a (e ∷ []) (cond b (f ∷ []) [])) ≡ sum_by g (cond s (c ∷ []) (cond t (d ∷ []) []))
pair_step w g e f c d true b true t p q h k l = single w e ∙ p ∙ sym (single g c)
pair_step w g e f c d true b false false p q h k l = single w e ∙ p
pair_step w g e f c d true b false true p q h k l = absurd (false≢true (sym (l refl) ∙ k refl))
pair_step w g e f c d false b true t p q h k l = absurd (false≢true (h refl))
pair_step w g e f c d false true false true p q h k l = single w f ∙ q ∙ sym (single g d)
pair_step w g e f c d false true false false p q h k l = single w f ∙ q
pair_step w g e f c d false false false true p q h k l = absurd (false≢true (k refl))
pair_step w g e f c d false false false false p q h k l = refl

descends : (y : ℤ) (a b : Point) → spans a b y ≡ true → int_lt a.y b.y ≡ true
descends y a b h = let p = spans_parts a b y h in let p0 = p.0 in let p1 = p.1 in lt_true a.y b.y (omega (arith, ints))

one_down : (a b : Point) → int_lt a.y b.y ≡ true → int_lt b.y a.y ≡ false
one_down a b h = let l = lt_is a.y b.y h in lt_false b.y a.y (omega (arith, ints))

pair_sum : (y : ℤ) (g : Crossing → ℕ) (e : Way) → sum_by (weight y g) (down_from e) ≡ sum_by g (crossing_of y e)
pair_sum y g e =
    pair_step (weight y g) g (record { upper = e.0; lower = e.1; down = true }) (record { upper = e.1; lower = e.0; down = false }) (record { at = cut_of e.0 e.1 y; down = true }) (record { at = cut_of e.1 e.0 y; down = false })
    (int_lt e.0.y e.1.y) (int_lt e.1.y e.0.y) (spans e.0 e.1 y) (spans e.1 e.0 y) refl refl (descends y e.0 e.1) (descends y e.1 e.0) (one_down e.0 e.1)

ways_sum : (y : ℤ) (g : Crossing → ℕ) (es : List Way) → sum_by (weight y g) (flat_map down_from es) ≡ sum_by g (crossings_of y es)
ways_sum y g es = flat_sums (weight y g) (λ (e : Way). sum_by g (crossing_of y e)) down_from (pair_sum y g) es ∙ sym (flat_sums g (λ (e : Way). sum_by g (crossing_of y e)) (crossing_of y) (λ e. refl) es)

same_sums : (y : ℤ) (rings : List (List Point)) (list : List SweepEdge) → IsPermutation (flat_map down_from (edges_of rings)) list → SameSums (crossings_of y (edges_of rings)) (row_crossings y list)
same_sums y rings list h g = row_sum y g list ∙ sum_by-IsPermutation (weight y g) (flat_map down_from (edges_of rings)) list h ∙ ways_sum y g (edges_of rings)

-- ---- the edges of an outline
pub insides : (rings : List (List Point)) (list : List SweepEdge) → IsPermutation (flat_map down_from (edges_of rings)) list → (i j : ℤ) → is_inside list i j ≡ inside rings i j
insides rings list h i j = inside_is rings i j (row_crossings (place j) list) (same_sums (place j) rings list h)

-- crossings in another order
pub odd_same : (i : ℤ) (cs ds : List Crossing) → IsPermutation cs ds → is_odd i ds ≡ is_odd i cs
odd_same i cs ds h =
    let a : downs_to i ds ≡ downs_to i cs = sum_by-IsPermutation (λ (c : Crossing). cond (c.down && int_le c.at i) 1 0) cs ds h in
    let b : ups_to i ds ≡ ups_to i cs = sum_by-IsPermutation (λ (c : Crossing). cond (not c.down && int_le c.at i) 1 0) cs ds h in
    rw (a, b) refl

pub even_same : (cs ds : List Crossing) → IsPermutation cs ds → downs cs ≡ ups cs → downs ds ≡ ups ds
even_same cs ds h e = sum_by-IsPermutation (λ (c : Crossing). cond c.down 1 0) cs ds h ∙ e ∙ sym (sum_by-IsPermutation (λ (c : Crossing). cond (not c.down) 1 0) cs ds h)

way_ends : (e : Way) → Ends IsOutlinePoint e → All IsEdge (down_from e)
way_ends e h =
    cond_both (int_lt e.0.y e.1.y) (record { upper = e.0; lower = e.1; down = true } ∷ []) (cond (int_lt e.1.y e.0.y) (record { upper = e.1; lower = e.0; down = false } ∷ []) []) (λ (es : List SweepEdge). All IsEdge es)
    (λ _. All-cons IsEdge (record { upper = e.0; lower = e.1; down = true }) [] (record { upper = h.0; lower = h.1 }) (All-nil IsEdge))
    (λ _. cond_both (int_lt e.1.y e.0.y) (record { upper = e.1; lower = e.0; down = false } ∷ []) [] (λ (es : List SweepEdge). All IsEdge es)
    (λ _. All-cons IsEdge (record { upper = e.1; lower = e.0; down = false }) [] (record { upper = h.1; lower = h.0 }) (All-nil IsEdge))
    (λ _. All-nil IsEdge))

ways_ends : (es : List Way) → All (Ends IsOutlinePoint) es → All IsEdge (flat_map down_from es)
ways_ends [] h = All-nil IsEdge
ways_ends (e ∷ es) h = All-append IsEdge (down_from e) (flat_map down_from es) (way_ends e (All-head (Ends IsOutlinePoint) e es h)) (ways_ends es (All-tail (Ends IsOutlinePoint) e es h))

pub sweepable : (rings : List (List Point)) (list : List SweepEdge) → IsOutline rings → IsPermutation (flat_map down_from (edges_of rings)) list → IsOrdered list → IsSweepable list
sweepable rings list near h up = record {
  edges = All-permutation IsEdge (flat_map down_from (edges_of rings)) list h (ways_ends (edges_of rings) (rings_ends IsOutlinePoint rings near));
  ordered = up;
  even = λ y. even y rings (row_crossings y list) (same_sums y rings list h);
}

-- the runs of the crossings of a row hold its samples
pub row_holding : (list : List SweepEdge) (j y : ℤ) (cs : List Crossing) (runs : List Run) → y ≡ place j → IsPermutation (row_crossings y list) cs → IsRowOf cs runs → IsRowHolding (λ i. is_inside list i j) runs
row_holding list j y cs runs e p h = record {
  covers = λ i. h.covers i ∙ odd_same i (row_crossings y list) cs p ∙ rw e refl;
  ascends = h.ascends;
}
