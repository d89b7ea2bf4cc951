-- Rings that have no edges but those of an outline have no points but its points.
use Rattle.std.proofs.Common.{◌≡◌, ◌+◌, ◌-◌, ◌<◌, List, [], ◌∷◌, ◌++◌, length, get_or, count_by, refl, sym, ap, subst, ◌∙◌, arith, length-append}
use Rattle.std.proofs.lemmas.List.{get_or_append_left, get_or-append_right}
use Rattle.std.proofs.lemmas.List.Elements.{All-nil, All-cons, All-head, All-tail, All-append}
use Rattle.std.proofs.lemmas.List.Sums.{get_or-le-sum_by}
use Rattle.std.specs.List.{All}
use Rattle.ass_num.specs.Winding.{line, edges, edges_of}
use Rattle.ass_num.specs.declared.geometry.Point.{Point}
use Rattle.cancelled_edges.specs.Cancelling.{same_edge, IsCancelled}
use Rattle.cancelled_edges.proofs.BalanceLemmas.{same_edge_is, same_edge_same}
use Rattle.cancelled_edges.proofs.CancelLemmas.{one_if, found}

module _ (P : Point → Type 0) where
  abbrev BeginsWell : Point × Point → Type 0
  BeginsWell e = P e.0

  line_begins : (p : Point) (rest : List Point) (last : Point) → P p → All P rest → All BeginsWell (line p rest last)
  line_begins p [] last first all = All-cons BeginsWell (p, last) [] first (All-nil BeginsWell)
  line_begins p (q ∷ rest) last first all = All-cons BeginsWell (p, q) (line q rest last) first (line_begins q rest last (All-head P q rest all) (All-tail P q rest all))

  ring_begins : (ring : List Point) → All P ring → All BeginsWell (edges ring)
  ring_begins [] all = All-nil BeginsWell
  ring_begins (p ∷ rest) all = line_begins p rest p (All-head P p rest all) (All-tail P p rest all)

  rings_begin : (rings : List (List Point)) → All (All P) rings → All BeginsWell (edges_of rings)
  rings_begin [] all = All-nil BeginsWell
  rings_begin (ring ∷ rings) all = All-append BeginsWell (edges ring) (edges_of rings) (ring_begins ring (All-head (All P) ring rings all)) (rings_begin rings (All-tail (All P) ring rings all))

  line_points : (p : Point) (rest : List Point) (last : Point) → All BeginsWell (line p rest last) → All P (p ∷ rest)
  line_points p [] last all = All-cons P p [] (All-head BeginsWell (p, last) [] all) (All-nil P)
  line_points p (q ∷ rest) last all =
      All-cons P p (q ∷ rest) (All-head BeginsWell (p, q) (line q rest last) all) (line_points q rest last (All-tail BeginsWell (p, q) (line q rest last) all))

  ring_points : (ring : List Point) → All BeginsWell (edges ring) → All P ring
  ring_points [] all = All-nil P
  ring_points (p ∷ rest) all = line_points p rest p all

  all_front : (xs ys : List (Point × Point)) → All BeginsWell (xs ++ ys) → All BeginsWell xs
  all_front xs ys all k d within = subst BeginsWell (get_or_append_left xs ys d k within) (all k d (omega (arith, length-append xs ys)))

  all_back : (xs ys : List (Point × Point)) → All BeginsWell (xs ++ ys) → All BeginsWell ys
  all_back xs ys all k d within =
      let past : length xs + k - length xs ≡ k = omega arith in
      subst BeginsWell (get_or-append_right xs ys (length xs) (length xs + k) d refl (omega arith) ∙ ap (λ n. get_or ys n d) past) (all (length xs + k) d (omega (arith, length-append xs ys)))

  rings_points : (rings : List (List Point)) → All BeginsWell (edges_of rings) → All (All P) rings
  rings_points [] all = All-nil (All P)
  rings_points (ring ∷ rings) all =
      All-cons (All P) ring rings (ring_points ring (all_front (edges ring) (edges_of rings) all)) (rings_points rings (all_back (edges ring) (edges_of rings) all))

  cancelled_begin : (outline rings : List (List Point)) → IsCancelled outline rings → All BeginsWell (edges_of outline) → All BeginsWell (edges_of rings)
  cancelled_begin outline rings cancelled all k d within =
      let e = get_or (edges_of rings) k d in
      let one : one_if (same_edge e e) ≡ 1 = ap one_if (same_edge_same e) in
      let least = get_or-le-sum_by (λ (x : Point × Point). one_if (same_edge e x)) (edges_of rings) k d within in
      let is = cancelled e in
      let there : 0 < count_by (same_edge e) (edges_of outline) = omega (arith, one, least, is) in
      let at = found (same_edge e) (edges_of outline) d there in
      subst BeginsWell (sym (same_edge_is e (get_or (edges_of outline) at.0 d) at.2)) (all at.0 d at.1)

  pub cancelled_points : (outline rings : List (List Point)) → IsCancelled outline rings → All (All P) outline → All (All P) rings
  cancelled_points outline rings cancelled all = rings_points rings (cancelled_begin outline rings cancelled (rings_begin outline all))
