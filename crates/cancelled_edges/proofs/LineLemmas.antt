-- The edges of rings, one after another.
use Rattle.std.proofs.Common.{◌≡◌, ℕ, ◌+◌, ◌-◌, ◌<◌, ◌≤◌, List, [], ◌∷◌, ◌++◌, length, get_or, take, drop, flat_map, sum_by, refl, sym, ap, ◌∙◌, append_assoc, arith}
use Rattle.std.proofs.lemmas.List.{append-nil, at_drop_more, at_drop_all, take_rest}
use Rattle.std.proofs.lemmas.List.Sums.{sum_by-cons, sum_by-append}
use Rattle.ass_num.specs.Winding.{line, edges, edges_of}
use Rattle.ass_num.specs.declared.geometry.Point.{Point}
use Rattle.cancelled_edges.specs.Edges.{edge_from}
use Rattle.cancelled_edges.specs.Walks.{open_line}
use Rattle.cancelled_edges.specs.declared.edges.Edge.{Edge}

-- A closed ring begins as often at each point as it ends there.
line_sums : (f : Point → ℕ) (p : Point) (rest : List Point) (last : Point)
    → sum_by (λ (e : Point × Point). f e.0) (line p rest last) + f last ≡ f p + sum_by (λ (e : Point × Point). f e.1) (line p rest last)
line_sums f p [] last = omega arith
line_sums f p (q ∷ rest) last =
    let more = line_sums f q rest last in
    let a = sum_by-cons (λ (e : Point × Point). f e.0) (p, q) (line q rest last) in
    let b = sum_by-cons (λ (e : Point × Point). f e.1) (p, q) (line q rest last) in
    omega (arith, more, a, b)

ring_sums : (f : Point → ℕ) (ring : List Point) → sum_by (λ (e : Point × Point). f e.0) (edges ring) ≡ sum_by (λ (e : Point × Point). f e.1) (edges ring)
ring_sums f [] = refl
ring_sums f (p ∷ rest) = let e = line_sums f p rest p in omega (arith, e)

pub rings_sums : (f : Point → ℕ) (rings : List (List Point)) → sum_by (λ (e : Point × Point). f e.0) (edges_of rings) ≡ sum_by (λ (e : Point × Point). f e.1) (edges_of rings)
rings_sums f [] = refl
rings_sums f (ring ∷ rings) =
    let here = ring_sums f ring in
    let more = rings_sums f rings in
    let a = sum_by-append (λ (e : Point × Point). f e.0) (edges ring) (edges_of rings) in
    let b = sum_by-append (λ (e : Point × Point). f e.1) (edges ring) (edges_of rings) in
    omega (arith, here, more, a, b)

-- the edges along points and on to q, with one more point
pub open_line_more : (ring : List Point) (p q : Point) → open_line (ring ++ p ∷ []) q ≡ open_line ring p ++ (p, q) ∷ []
open_line_more [] p q = refl
open_line_more (a ∷ rest) p q = line_more a rest p q
  where
    line_more : (a : Point) (rest : List Point) (p q : Point) → line a (rest ++ p ∷ []) q ≡ line a rest p ++ (p, q) ∷ []
    line_more a [] p q = refl
    line_more a (b ∷ rest) p q = ap (λ es. (a, b) ∷ es) (line_more b rest p q)

pub line_step : (list new : List Edge) (a last : Point) (rest : List Point) (i : ℕ) (p d : Point) → i < length rest → p ≡ get_or rest i d → new ≡ list ++ edge_from (a, p)
    → new ++ flat_map edge_from (line p (drop (i + 1) rest) last) ≡ list ++ flat_map edge_from (line a (drop i rest) last)
line_step list new a last rest i p d within is added =
    let behind = flat_map edge_from (line p (drop (i + 1) rest) last) in
    ap (λ es. es ++ behind) added ∙ append_assoc list (edge_from (a, p)) behind
    ∙ ap (λ q. list ++ (edge_from (a, q) ++ flat_map edge_from (line q (drop (i + 1) rest) last))) is
    ∙ ap (λ es. list ++ es) (sym (at_drop_more (λ ps. flat_map edge_from (line a ps last)) rest i d within))

pub line_end : (list new : List Edge) (a last : Point) (rest : List Point) (i : ℕ) → length rest ≤ i → new ≡ list ++ edge_from (a, last)
    → new ≡ list ++ flat_map edge_from (line a (drop i rest) last)
line_end list new a last rest i past added =
    added ∙ ap (λ es. list ++ es) (sym (append-nil (edge_from (a, last)))) ∙ ap (λ es. list ++ es) (sym (at_drop_all (λ ps. flat_map edge_from (line a ps last)) rest i past))

pub ring_is : (ring : List Point) (d : Point) → 0 < length ring → flat_map edge_from (line (get_or ring 0 d) (take (length ring - 1) (drop 1 ring)) (get_or ring 0 d)) ≡ flat_map edge_from (edges ring)
ring_is [] d some = absurd (omega arith)
ring_is (p ∷ rest) d some = ap (λ r. flat_map edge_from (line p r p)) (take_rest (p ∷ rest) 1)
