-- Rows between which no edge begins or ends, and whose edges stand upright, have the same crossings.
use Rattle.std.proofs.Common.{◌≡◌, ℕ, ℤ, pos, ◌-ℤ◌, ◌≤ℤ◌, refl, sym, ap, subst, ◌∙◌, arith, List, [], ◌∷◌, map, filter, take, All, IsPermutation}
use Rattle.std.proofs.Math.IntN.{zero-*ℤ}
use Rattle.std.proofs.lemmas.Int.{ints}
use Rattle.std.proofs.lemmas.List.Elements.{All-head, All-tail, All-weaker}
use Rattle.ass_num.proofs.OrderLemmas.{lt_true}
use Rattle.ass_num.specs.Winding.{place, spans}
use Rattle.ass_num.specs.declared.geometry.Point.{Point}
use Rattle.ass_num.specs.declared.region.Run.{Run}
use Rattle.region_rows.specs.Growths.{IsRowHolding}
use Rattle.sample_region.specs.Crossings.{crossing_at, cut_of, is_inside, row_crossings}
use Rattle.sample_region.specs.Edges.{IsSteady, IsSwept, IsSweptTo, IsUprightPast, unended}
use Rattle.sample_region.specs.Rows.{IsRowOf}
use Rattle.sample_region.specs.declared.edges.SweepEdge.{SweepEdge}
use Rattle.sample_region.specs.declared.sweep.Crossing.{Crossing}
use Rattle.sample_region.proofs.EdgeLemmas.{row_holding}
use Rattle.sample_region.proofs.SweepLemmas.{crossed, rest_crossed, unended_twice}

upright_cut : (a b : Point) (y z : ℤ) → a.x ≡ b.x → cut_of a b z ≡ cut_of a b y
upright_cut a b y z e =
    let n : b.x -ℤ a.x ≡ pos 0 = omega (arith, ints) in
    rw (n, zero-*ℤ (z -ℤ a.y), zero-*ℤ (y -ℤ a.y)) refl

same_crossings : (y z : ℤ) (es : List SweepEdge) → All (IsUprightPast z) es → map (crossing_at z) es ≡ map (crossing_at y) es
same_crossings y z [] h = refl
same_crossings y z (e ∷ es) h =
    rw (upright_cut e.upper e.lower y z (All-head (IsUprightPast z) e es h).0)
    (ap (λ cs. crossing_at y e ∷ cs) (same_crossings y z es (All-tail (IsUprightPast z) e es h)))

none_ended : (z : ℤ) (es : List SweepEdge) → All (IsUprightPast z) es → unended z es ≡ es
none_ended z [] h = refl
none_ended z (e ∷ es) h =
    rw (lt_true z e.lower.y (All-head (IsUprightPast z) e es h).1)
    (ap (λ fs. e ∷ fs) (none_ended z es (All-tail (IsUprightPast z) e es h)))

steady : (y z : ℤ) (es : List SweepEdge) (n : ℕ) (active : List SweepEdge) → IsSweptTo y es n active → IsSteady z es n active → y ≤ℤ z
    → row_crossings z es ≡ row_crossings y es
steady y z es n active h s l =
    let at_y : filter (λ (e : SweepEdge). spans e.upper e.lower y) es ≡ active = sym (crossed y es n h.above h.below) ∙ sym h.active_is in
    let above : All (λ e. e.upper.y ≤ℤ z) (take n es) =
    All-weaker (λ (e : SweepEdge). e.upper.y ≤ℤ y) (λ (e : SweepEdge). e.upper.y ≤ℤ z) (λ e k. omega (arith, ints)) (take n es) h.above
    in
    let at_z : filter (λ (e : SweepEdge). spans e.upper e.lower z) es ≡ active =
    sym (crossed z es n above s.begins) ∙ sym (unended_twice y z (take n es) l) ∙ ap (unended z) (sym h.active_is) ∙ none_ended z active s.upright
    in
    ap (map (crossing_at z)) at_z ∙ same_crossings y z active s.upright ∙ sym (ap (map (crossing_at y)) at_y)

-- So the runs of the row at j are those of each later one that is steady.
pub steady_row : (es : List SweepEdge) (n : ℕ) (active : List SweepEdge) (j k : ℤ) (cs : List Crossing) (runs : List Run) → IsSweptTo (place j) es n active
    → IsPermutation (row_crossings (place j) es) cs → IsRowOf cs runs → j ≤ℤ k → IsSteady (place k) es n active
    → IsRowHolding (λ i. is_inside es i k) runs
steady_row es n active j k cs runs h p r l s =
    let same = steady (place j) (place k) es n active h s (omega (arith, ints)) in
    row_holding es k (place k) cs runs refl (subst (λ xs. IsPermutation xs cs) (sym same) p) r

-- Before the first edge begins, no row has a run.
pub first_rows : (es : List SweepEdge) (k : ℤ) → IsSteady (place k) es 0 [] → IsRowHolding (λ i. is_inside es i k) []
first_rows es k s = record {
  covers = λ i. rw (rest_crossed (place k) es s.begins) refl;
  ascends = refl;
}

-- What is ready for a row is ready for later ones.
pub swept_later : (y z : ℤ) (es : List SweepEdge) (n : ℕ) (active : List SweepEdge) → IsSwept y es n active → y ≤ℤ z → IsSwept z es n active
swept_later y z es n active h l = record {
  active_is = λ w k. h.active_is w (omega (arith, ints));
  above = All-weaker (λ (e : SweepEdge). e.upper.y ≤ℤ y) (λ (e : SweepEdge). e.upper.y ≤ℤ z) (λ e k. omega (arith, ints)) (take n es) h.above;
  within = h.within;
}
