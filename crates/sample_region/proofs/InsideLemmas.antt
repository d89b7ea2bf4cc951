-- How far from 0 the samples inside an outline lie.
use Rattle.std.proofs.Common.{◌≡◌, ℕ, Bool, true, false, not, cond, eqb, ◌&&◌, inl, inr, ℤ, pos, negsuc, ◌-ℤ◌, ◌≤ℤ◌, ◌<ℤ◌, refl, sym, ap, ◌∙◌, arith, int_le, List, [], ◌∷◌, All, get_or, filter}
use Rattle.std.proofs.lemmas.Int.{ints, by_lt_z}
use Rattle.std.proofs.lemmas.Bool.{false≢true, eq-eqb}
use Rattle.std.proofs.lemmas.List.Sums.{sum_by-cons}
use Rattle.std.proofs.lemmas.List.Elements.{All-head, All-tail, All-map, All-filter, All-weaker, filter_passes}
use Rattle.ass_num.specs.Limits.{IsOutlinePoint, IsOutline, IsWithin}
use Rattle.ass_num.specs.Winding.{place, spans, inside}
use Rattle.ass_num.specs.declared.geometry.Point.{Point}
use Rattle.ass_num.proofs.OrderLemmas.{le_false}
use Rattle.sample_region.specs.Crossings.{crossing_at, row_crossings, ups, downs_to, ups_to, is_odd, is_inside, IsSweepable}
use Rattle.sample_region.specs.Edges.{IsEdge}
use Rattle.sample_region.specs.Heights.{IsHeightBetween}
use Rattle.sample_region.specs.declared.edges.SweepEdge.{SweepEdge}
use Rattle.sample_region.specs.declared.sweep.Crossing.{Crossing}
use Rattle.sample_region.proofs.OutsideLemmas.{outside}
use Rattle.sample_region.proofs.SignedLemmas.{cut_within}
use Rattle.sample_region.proofs.WalkLemmas.{downs_to-all, ups_to-all, and_nothing}
use Rattle.sample_region.proofs.WindingLemmas.{spans_parts}

none_before : (i : ℤ) (cs : List Crossing) → All (λ c. i <ℤ c.at) cs → (downs_to i cs ≡ 0) × (ups_to i cs ≡ 0)
none_before i [] h = (refl, refl)
none_before i (c ∷ cs) h =
    let e = le_false c.at i (All-head (λ (c : Crossing). i <ℤ c.at) c cs h) in
    let r = none_before i cs (All-tail (λ (c : Crossing). i <ℤ c.at) c cs h) in (
      sum_by-cons (λ (c : Crossing). cond (c.down && int_le c.at i) 1 0) c cs ∙ rw (e, and_nothing c.down) (omega (arith, r.0)),
      sum_by-cons (λ (c : Crossing). cond (not c.down && int_le c.at i) 1 0) c cs ∙ rw (e, and_nothing (not c.down)) (omega (arith, r.1)),
    )

abbrev IsNearCut : Crossing → Type 0
IsNearCut c = (negsuc 65535 ≤ℤ c.at) × (c.at ≤ℤ pos 65536)

edge_near : (y : ℤ) (e : SweepEdge) → IsEdge e → spans e.upper e.lower y ≡ true → IsNearCut (crossing_at y e)
edge_near y e w h =
    let p = spans_parts e.upper e.lower y h in
    let p0 = p.0 in
    let p1 = p.1 in
    let u = w.upper in
    let l = w.lower in
    cut_within e.upper.x e.lower.x (y -ℤ e.upper.y) (e.lower.y -ℤ e.upper.y) u.x.0 u.x.1 l.x.0 l.x.1 (omega (arith, ints)) (omega (arith, ints))

cuts_near : (y : ℤ) (list : List SweepEdge) → All IsEdge list → All IsNearCut (row_crossings y list)
cuts_near y list near =
    let p : SweepEdge → Bool = λ e. spans e.upper e.lower y in
    All-map IsNearCut (crossing_at y) (filter p list) (λ k d l. edge_near y (get_or (filter p list) k d) (All-filter p IsEdge list near k d l) (filter_passes p list k d l))

even_odd : (n : ℕ) → not (eqb n n) ≡ false
even_odd n = ap not (eq-eqb n n refl)

pub columns_near : (list : List SweepEdge) → IsSweepable list → (i j : ℤ) → is_inside list i j ≡ true → IsWithin 65536 i
columns_near list w i j h =
    let cs = row_crossings (place j) list in
    let near = cuts_near (place j) list w.edges in
    by_lt_z i (negsuc 65535)
    (λ (l : i <ℤ negsuc 65535).
    let z = none_before i cs (All-weaker IsNearCut (λ (c : Crossing). i <ℤ c.at) (λ c n. let a = n.0 in omega (arith, ints)) cs near) in
    let e : is_odd i cs ≡ false = rw (z.0, z.1) refl in
    absurd (false≢true (sym e ∙ h)))
    (λ (l : negsuc 65535 ≤ℤ i). by_lt_z i (pos 65536)
    (λ (m : i <ℤ pos 65536). (omega (arith, ints), omega (arith, ints)))
    (λ (m : pos 65536 ≤ℤ i).
    let all = All-weaker IsNearCut (λ (c : Crossing). c.at ≤ℤ i) (λ c n. let a = n.1 in omega (arith, ints)) cs near in
    let e : is_odd i cs ≡ false = rw (downs_to-all i cs all, ups_to-all i cs all, w.even (place j)) (even_odd (ups cs)) in
    absurd (false≢true (sym e ∙ h))))

pub rows_near : (rings : List (List Point)) → IsOutline rings → (i j : ℤ) → inside rings i j ≡ true → IsWithin 65536 j
rows_near rings near i j h =
    let between : All (All (IsHeightBetween (negsuc 262143) (pos 262144))) rings =
    All-weaker (All IsOutlinePoint) (All (IsHeightBetween (negsuc 262143) (pos 262144))) (λ ring w. All-weaker IsOutlinePoint (IsHeightBetween (negsuc 262143) (pos 262144)) (λ p v. v.y) ring w) rings near in
    by_lt_z (place j) (negsuc 262143)
    (λ (l : place j <ℤ negsuc 262143). absurd (false≢true (sym (outside (negsuc 262143) (pos 262144) rings between i j (inl l)) ∙ h)))
    (λ (l : negsuc 262143 ≤ℤ place j). by_lt_z (place j) (pos 262144)
    (λ (m : place j <ℤ pos 262144). (omega (arith, ints), omega (arith, ints)))
    (λ (m : pos 262144 ≤ℤ place j). absurd (false≢true (sym (outside (negsuc 262143) (pos 262144) rings between i j (inr m)) ∙ h))))
