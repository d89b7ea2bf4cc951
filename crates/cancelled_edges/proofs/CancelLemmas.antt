-- What cancelled edges count.
use Rattle.std.proofs.Common.{◌≡◌, ℕ, suc, ◌<◌, inl, inr, Bool, true, false, cond, ◌&&◌, ℤ, pos, List, [], ◌∷◌, length, get_or, sum_by, count_by, refl, sym, ap, ◌∙◌, arith}
use Rattle.std.proofs.lemmas.Int.{ints}
use Rattle.std.proofs.lemmas.Bool.{cases_lt}
use Rattle.std.proofs.lemmas.List.Sums.{sum_by-cons}
use Rattle.ass_num.specs.Winding.{edges_of, counts, place, winding}
use Rattle.ass_num.specs.declared.geometry.Point.{Point}
use Rattle.cancelled_edges.specs.Cancelling.{same_point, same_edge, opposite, IsCancelled}
use Rattle.cancelled_edges.specs.Edges.{way, IsBalanced, IsClosed, HasNoOpposites}
use Rattle.cancelled_edges.specs.declared.edges.Edge.{Edge}
use Rattle.cancelled_edges.proofs.BalanceLemmas.{same_edge_is}
use Rattle.cancelled_edges.proofs.LineLemmas.{rings_sums}

abbrev pub one_if : Bool → ℕ
one_if b = cond b 1 0

-- Closed rings leave closed edges.
pub closed_kept : (rings : List (List Point)) (kept : List Edge) → IsBalanced (edges_of rings) kept → IsClosed kept
closed_kept rings kept balanced f =
    let a = balanced (λ (e : Point × Point). f e.0) in
    let b = rings_sums f rings in
    omega (arith, a, b)

-- the sum over the rings' edges is the sum over the kept ones
abbrev pub HasSums : List (List Point) → List Edge → Type 0
HasSums rings kept = (f : Point × Point → ℕ) → sum_by f (edges_of rings) ≡ sum_by (λ (e : Edge). f (way e)) kept

pub winding_kept : (outline rings : List (List Point)) (kept : List Edge) → IsBalanced (edges_of outline) kept → HasSums rings kept → (i j : ℤ) → winding rings i j ≡ winding outline i j
winding_kept outline rings kept balanced sums i j =
    let f = λ (e : Point × Point). one_if (counts e.0 e.1 (place i) (place j)) in
    let a = balanced f in
    let b = sums f in
    let c = sums (λ (e : Point × Point). f (opposite e)) in
    omega (arith, ints, a, b, c)

and_swap : (a b : Bool) → (a && b) ≡ (b && a)
and_swap true true = refl
and_swap true false = refl
and_swap false true = refl
and_swap false false = refl

opposite_same : (e x : Point × Point) → same_edge e (opposite x) ≡ same_edge (opposite e) x
opposite_same e x = and_swap (same_point e.0 x.1) (same_point e.1 x.0)

opposite_counts : (e : Point × Point) (es : List (Point × Point)) → sum_by (λ (x : Point × Point). one_if (same_edge e (opposite x))) es ≡ count_by (same_edge (opposite e)) es
opposite_counts e [] = refl
opposite_counts e (x ∷ es) =
    let f = λ (x : Point × Point). one_if (same_edge e (opposite x)) in
    let g = λ (x : Point × Point). one_if (same_edge (opposite e) x) in
    let here : f x ≡ g x = ap one_if (opposite_same e x) in
    let more : sum_by f es ≡ sum_by g es = opposite_counts e es in
    omega (arith, sum_by-cons f x es, sum_by-cons g x es, here, more)

-- Where some are counted, one of them stands at a place.
abbrev IsFound : {X : Type 0} → (X → Bool) → List X → X → Type 0
IsFound p xs d = (i : ℕ) × (i < length xs) × (p (get_or xs i d) ≡ true)

pub found : {X : Type 0} (p : X → Bool) (xs : List X) (d : X) → 0 < count_by p xs → IsFound p xs d
found p [] d some = absurd (omega arith)
found {X} p (x ∷ xs) d some = found_in (p x) refl (found p xs d)
  where
    found_in : (b : Bool) → b ≡ p x → (0 < count_by p xs → IsFound p xs d) → IsFound p (x ∷ xs) d
    found_in true is later = (0, omega arith, sym is)
    found_in false is later =
        let none : one_if (p x) ≡ 0 = ap one_if (sym is) in
        let rest = later (omega (arith, sum_by-cons (λ (y : X). one_if (p y)) x xs, none)) in
        (suc rest.0, omega (arith, rest.1), rest.2)

-- An edge and its opposite aren't both counted.
one_way : (kept : List Edge) (e : Point × Point) (d : Edge) → HasNoOpposites kept → 0 < count_by (λ (x : Edge). same_edge e (way x)) kept → 0 < count_by (λ (x : Edge). same_edge e (opposite (way x))) kept → ⊥
one_way kept e d none forth back =
    let a = found (λ (x : Edge). same_edge e (way x)) kept d forth in
    let b = found (λ (x : Edge). same_edge e (opposite (way x))) kept d back in
    none a.0 b.0 d a.1 b.1 (sym (same_edge_is e (way (get_or kept a.0 d)) a.2) ∙ same_edge_is e (opposite (way (get_or kept b.0 d))) b.2)

origin : Point
origin = record { x = pos 0; y = pos 0 }

pub cancelled_kept : (outline rings : List (List Point)) (kept : List Edge) → IsBalanced (edges_of outline) kept → HasNoOpposites kept → HasSums rings kept → IsCancelled outline rings
cancelled_kept outline rings kept balanced none sums e =
    let f = λ (x : Point × Point). one_if (same_edge e x) in
    let a = balanced f in
    let b = sums f in
    let c = opposite_counts e (edges_of outline) in
    let forth = sum_by (λ (x : Edge). f (way x)) kept in
    let back = sum_by (λ (x : Edge). f (opposite (way x))) kept in
    elim (cases_lt 0 forth) [
      | inl some ↦ elim (cases_lt 0 back) [
        | inl other ↦ absurd (one_way kept e (record { from = origin; to = origin }) none some other)
        | inr past ↦ omega (arith, a, b, c)
      ]
      | inr past ↦ omega (arith, a, b, c)
    ]
