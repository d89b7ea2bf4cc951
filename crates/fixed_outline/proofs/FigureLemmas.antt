-- The rings of a path, segment by segment.
use Rattle.std.proofs.Common.{◌≡◌, true, ℕ, ◌+◌, ◌<◌, ◌≤◌, List, [], ◌∷◌, ◌++◌, length, get_or, set, take, drop, map, refl, sym, ap, subst, ◌∙◌, append_assoc, ℤ, arith}
use Rattle.std.proofs.lemmas.Bool.{false≢true}
use Rattle.std.proofs.lemmas.List.{append-nil, drop_more, drop_all, map-append, map_more, length-map, length-take-le, set_at, get_or_at, take_all}
use Rattle.std.specs.List.{All}
use Rattle.std.proofs.lemmas.List.Elements.{All-same, All-nil}
use Rattle.ass_num.specs.Limits.{IsHeldPoint, IsOutline, IsPointWithin}
use Rattle.ass_num.specs.Paths.{begins_figure}
use Rattle.ass_num.specs.declared.geometry.Point.{Point}
use Rattle.ass_num.specs.declared.geometry.Matrix.{Matrix}
use Rattle.ass_num.specs.declared.geometry.Seg.{Seg}
use Rattle.ass_num.specs.declared.geometry.Seg.TheVariants.{Move, Line, Cubic, Spline}
use Rattle.outline_points.specs.Limits.{max_length}
use Rattle.outline_points.specs.Drawings.{end_point, last_point, segment_points, figure_points, figures, path_rings}
use Rattle.fixed_outline.specs.Figures.{placed_point, finished_rings, closed_rings, open_ring, rings_behind, IsWalked}

-- One more segment.
behind_more : (m : Matrix) (a : Point) (seg : Seg) (ring : List Point) (rest : List Seg) → (ring ≡ [] → begins_figure (seg ∷ rest) ≡ true)
    → closed_rings seg ring ++ rings_behind m (open_ring seg ring ++ segment_points m a seg) (end_point a seg) rest ≡ rings_behind m ring a (seg ∷ rest)
behind_more m a (Move p) [] rest begins = refl
behind_more m a (Move p) (q ∷ ring) rest begins = ap (λ r. r ∷ figures m a (Move p ∷ rest)) (sym (append-nil (q ∷ ring)))
behind_more m a (Line p) [] rest begins = absurd (false≢true (begins refl))
behind_more m a (Line p) (q ∷ ring) rest begins = ap (λ r. r ∷ figures m p rest) (append_assoc (q ∷ ring) (segment_points m a (Line p)) (figure_points m p rest))
behind_more m a (Cubic b c d) [] rest begins = absurd (false≢true (begins refl))
behind_more m a (Cubic b c d) (q ∷ ring) rest begins = ap (λ r. r ∷ figures m d rest) (append_assoc (q ∷ ring) (segment_points m a (Cubic b c d)) (figure_points m d rest))
behind_more m a (Spline controls closed) [] rest begins = absurd (false≢true (begins refl))
behind_more m a (Spline controls closed) (q ∷ ring) rest begins = ap (λ r. r ∷ figures m (last_point a controls) rest) (append_assoc (q ∷ ring) (segment_points m a (Spline controls closed)) (figure_points m (last_point a controls) rest))

-- There is a point behind it.
goes_on_with : (m : Matrix) (a : Point) (seg : Seg) (ring : List Point) (rest behind : List Seg) → (ring ≡ [] → begins_figure (seg ∷ rest) ≡ true) → open_ring seg ring ++ segment_points m a seg ≡ [] → begins_figure behind ≡ true
goes_on_with m a (Move p) ring rest behind begins none = cc
goes_on_with m a (Line p) [] rest behind begins none = absurd (false≢true (begins refl))
goes_on_with m a (Line p) (q ∷ ring) rest behind begins none = cc
goes_on_with m a (Cubic b c d) [] rest behind begins none = absurd (false≢true (begins refl))
goes_on_with m a (Cubic b c d) (q ∷ ring) rest behind begins none = cc
goes_on_with m a (Spline controls closed) [] rest behind begins none = absurd (false≢true (begins refl))
goes_on_with m a (Spline controls closed) (q ∷ ring) rest behind begins none = cc

pub walked_more : (m : Matrix) (shift : ℤ) (segs : List Seg) (rings new_rings : List (List Point)) (ring old new_ring : List Point) (a b : Point) (i : ℕ) (seg : Seg)
    → i < length segs → seg ≡ get_or segs i seg → IsWalked m shift segs rings ring a (drop i segs)
    → new_rings ≡ rings ++ map (map (placed_point m.turn shift)) (closed_rings seg ring) → old ≡ open_ring seg ring → new_ring ≡ old ++ segment_points m a seg → b ≡ end_point a seg
    → All (IsPointWithin max_length) new_ring → IsHeldPoint b → IsOutline new_rings → IsWalked m shift segs new_rings new_ring b (drop (i + 1) segs)
walked_more m shift segs rings new_rings ring old new_ring a b i seg within seg_is was rings_are old_is ring_is b_is points vertex outline =
    let place = map (placed_point m.turn shift) in
    let rest = drop (i + 1) segs in
    let split : drop i segs ≡ seg ∷ rest = drop_more segs i seg within ∙ ap (λ s. s ∷ rest) (sym seg_is) in
    let begins : ring ≡ [] → begins_figure (seg ∷ rest) ≡ true = λ none. subst (λ ss. begins_figure ss ≡ true) split (was.begins none) in
    let ring_whole : new_ring ≡ open_ring seg ring ++ segment_points m a seg = ring_is ∙ ap (λ r. r ++ segment_points m a seg) old_is in
    record {
      whole =
          ap (λ rs. rs ++ map place (rings_behind m new_ring b rest)) rings_are
          ∙ append_assoc rings (map place (closed_rings seg ring)) (map place (rings_behind m new_ring b rest))
          ∙ ap (λ rs. rings ++ rs) (sym (map-append place (closed_rings seg ring) (rings_behind m new_ring b rest))
          ∙ ap (λ r. map place (closed_rings seg ring ++ rings_behind m r b rest)) ring_whole
          ∙ ap (λ v. map place (closed_rings seg ring ++ rings_behind m (open_ring seg ring ++ segment_points m a seg) v rest)) b_is
          ∙ ap (map place) (behind_more m a seg ring rest begins)
          ∙ ap (λ ss. map place (rings_behind m ring a ss)) (sym split))
          ∙ was.whole;
      begins = λ none. goes_on_with m a seg ring rest rest begins (sym ring_whole ∙ none);
      points = points;
      vertex = vertex;
      within = outline;
    }

behind_none : (m : Matrix) (ring : List Point) (a : Point) → rings_behind m ring a [] ≡ finished_rings ring
behind_none m [] a = refl
behind_none m (q ∷ ring) a = ap (λ r. r ∷ []) (append-nil (q ∷ ring))

-- At the end of the path the last figure is finished.
pub walked_all : (m : Matrix) (shift : ℤ) (segs : List Seg) (rings new_rings : List (List Point)) (ring : List Point) (a : Point) (i : ℕ)
    → length segs ≤ i → IsWalked m shift segs rings ring a (drop i segs) → new_rings ≡ rings ++ map (map (placed_point m.turn shift)) (finished_rings ring) → new_rings ≡ path_rings m shift segs
walked_all m shift segs rings new_rings ring a i past was rings_are =
    rings_are ∙ ap (λ rs. rings ++ map (map (placed_point m.turn shift)) rs) (sym (behind_none m ring a))
    ∙ ap (λ ss. rings ++ map (map (placed_point m.turn shift)) (rings_behind m ring a ss)) (sym (drop_all i segs past)) ∙ was.whole

pub finished_is : (turn shift : ℤ) (ring : List Point) → 0 < length ring → map (map (placed_point turn shift)) (finished_rings ring) ≡ map (placed_point turn shift) ring ∷ []
finished_is turn shift [] some = absurd (omega arith)
finished_is turn shift (q ∷ ring) some = refl

-- One more point is placed.
pub placed_more : (f : Point → Point) (old now : List Point) (i : ℕ) (r d : Point) → i < length old → now ≡ map f (take i old) ++ drop i old → r ≡ f (get_or old i d)
    → set now i r ≡ map f (take (i + 1) old) ++ drop (i + 1) old
placed_more f old now i r d within was is =
    let front : length (map f (take i old)) ≡ i = length-map (take i old) f ∙ length-take-le i old (omega arith) in
    ap (λ xs. set xs i r) (was ∙ ap (λ xs. map f (take i old) ++ xs) (drop_more old i d within))
    ∙ set_at (map f (take i old)) (get_or old i d) (drop (i + 1) old) r i front
    ∙ ap (λ p. map f (take i old) ++ p ∷ drop (i + 1) old) is
    ∙ sym (append_assoc (map f (take i old)) (f (get_or old i d) ∷ []) (drop (i + 1) old))
    ∙ ap (λ xs. xs ++ drop (i + 1) old) (sym (map_more f old i d within))

-- The point at i isn't placed yet.
pub unplaced : (f : Point → Point) (old now : List Point) (i : ℕ) (d : Point) → i < length old → now ≡ map f (take i old) ++ drop i old → get_or now i d ≡ get_or old i d
unplaced f old now i d within was =
    let front : length (map f (take i old)) ≡ i = length-map (take i old) f ∙ length-take-le i old (omega arith) in
    ap (λ xs. get_or xs i d) (was ∙ ap (λ xs. map f (take i old) ++ xs) (drop_more old i d within))
    ∙ get_or_at (map f (take i old)) (get_or old i d) (drop (i + 1) old) d i front

pub open_within : (P : Point → Type 0) (seg : Seg) (ring old : List Point) → old ≡ open_ring seg ring → All P ring → All P old
open_within P (Move p) ring old is all = All-same P old [] is (All-nil P)
open_within P (Line p) ring old is all = All-same P old ring is all
open_within P (Cubic b c d) ring old is all = All-same P old ring is all
open_within P (Spline controls closed) ring old is all = All-same P old ring is all

-- What is written back into a vector of the same length.
pub written_back : (n : ℕ) (new old : List Point) → length new ≡ length old → n ≡ length old → take n (new ++ drop (length new) old) ≡ new
written_back n new old same whole =
    ap (λ xs. take n (new ++ xs)) (drop_all (length new) old (omega arith)) ∙ ap (take n) (append-nil new) ∙ take_all n new (omega arith)
