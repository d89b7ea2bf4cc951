-- The points of a drawing in the order of its segments.
use Rattle.std.proofs.Common.{◌≡◌, true, ℕ, suc, ◌+◌, ◌-◌, ◌<◌, ◌≤◌, List, [], ◌∷◌, ◌++◌, All, length, get_or, take, drop, map, flat_map, refl, sym, ap, ◌∙◌, append_assoc, arith}
use Rattle.std.specs.List.{range_with_len}
use Rattle.std.proofs.lemmas.Int.{ints, clamps}
use Rattle.std.proofs.lemmas.List.{at_drop_more, at_drop_all, take_rest}
use Rattle.std.proofs.lemmas.List.Elements.{All-head, All-tail}
use Rattle.std.proofs.lemmas.List.FromFn.{map-range_with_len_more}
use Rattle.ass_num.specs.declared.geometry.Point.{Point}
use Rattle.ass_num.specs.declared.geometry.Matrix.{Matrix}
use Rattle.ass_num.specs.declared.geometry.Seg.{Seg}
use Rattle.ass_num.specs.declared.geometry.Seg.TheVariants.{Move, Line, Cubic, Spline}
use Rattle.ass_num.specs.Limits.{IsPointWithin, IsHeldPoint}
use Rattle.ass_num.specs.Paths.{begins_figure, IsSegment}
use Rattle.outline_points.specs.Curves.{piece_points}
use Rattle.outline_points.specs.Drawings.{scaled_point, spline_points, last_point, end_point, segment_points, figure_points, figures, walk_points, larger_point, largest_from, drawing_extent, origin}

-- the last of some points
pub last_is : (v d : Point) (xs : List Point) → 0 < length xs → last_point v xs ≡ get_or xs (length xs - 1) d
last_is v d [] some = absurd (omega arith)
last_is v d (x ∷ []) some = refl
last_is v d (x ∷ y ∷ rest) some =
    let e : length (x ∷ y ∷ rest) - 1 ≡ suc (length (y ∷ rest) - 1) = omega arith in
    last_is x d (y ∷ rest) (omega arith) ∙ sym (ap (λ k. get_or (x ∷ y ∷ rest) k d) e)

-- The points of a cubic curve, and of a spline.
pub cubic_held : (b c d : Point) → IsSegment (Cubic b c d) → IsHeldPoint b × IsHeldPoint c × IsHeldPoint d
cubic_held b c d h =
    let t = All-tail IsHeldPoint b (c ∷ d ∷ []) h in
    (All-head IsHeldPoint b (c ∷ d ∷ []) h, All-head IsHeldPoint c (d ∷ []) t, All-head IsHeldPoint d [] (All-tail IsHeldPoint c (d ∷ []) t))

last_held : (v : Point) (ps : List Point) → IsHeldPoint v → All IsHeldPoint ps → IsHeldPoint (last_point v ps)
last_held v [] h k = h
last_held v (p ∷ ps) h k = last_held p ps (All-head IsHeldPoint p ps k) (All-tail IsHeldPoint p ps k)

pub end_held : (v : Point) (seg : Seg) → IsHeldPoint v → IsSegment seg → IsHeldPoint (end_point v seg)
end_held v (Move p) h k = All-head IsHeldPoint p [] k
end_held v (Line p) h k = All-head IsHeldPoint p [] k
end_held v (Cubic b c d) h k = (cubic_held b c d k).2
end_held v (Spline controls closed) h k = last_held v controls h k

-- The points up to the next figure and those of the figures are all points.
pub figures_walk : (m : Matrix) (a : Point) (segs : List Seg) → figure_points m a segs ++ flat_map (λ (ring : List Point). ring) (figures m a segs) ≡ walk_points m a segs
figures_walk m a [] = refl
figures_walk m a (Move p ∷ segs) = ap (λ ps. scaled_point m p ∷ ps) (figures_walk m p segs)
figures_walk m a (Line p ∷ segs) = ap (λ ps. scaled_point m p ∷ ps) (figures_walk m p segs)
figures_walk m a (Cubic b c d ∷ segs) = append_assoc (segment_points m a (Cubic b c d)) (figure_points m d segs) (flat_map (λ (ring : List Point). ring) (figures m d segs)) ∙ ap (λ ps. segment_points m a (Cubic b c d) ++ ps) (figures_walk m d segs)
figures_walk m a (Spline controls closed ∷ segs) = append_assoc (segment_points m a (Spline controls closed)) (figure_points m (last_point a controls) segs) (flat_map (λ (ring : List Point). ring) (figures m (last_point a controls) segs)) ∙ ap (λ ps. segment_points m a (Spline controls closed) ++ ps) (figures_walk m (last_point a controls) segs)

pub largest_from-append : (p : Point) (xs ys : List Point) → largest_from p (xs ++ ys) ≡ largest_from (largest_from p xs) ys
largest_from-append p [] ys = refl
largest_from-append p (x ∷ xs) ys = largest_from-append (larger_point p x) xs ys

-- The largest coordinates of points within a limit are within it.
larger_within : (m : ℕ) (p q : Point) → IsPointWithin m p → IsPointWithin m q → IsPointWithin m (larger_point p q)
larger_within m p q h k = record { x = (omega (arith, ints, clamps), omega (arith, ints, clamps)); y = (omega (arith, ints, clamps), omega (arith, ints, clamps)) }

pub largest_within : (m : ℕ) (p : Point) (qs : List Point) → IsPointWithin m p → All (IsPointWithin m) qs → IsPointWithin m (largest_from p qs)
largest_within m p [] h k = h
largest_within m p (q ∷ qs) h k = largest_within m (larger_point p q) qs (larger_within m p q h (All-head (IsPointWithin m) q qs k)) (All-tail (IsPointWithin m) q qs k)

-- A path that begins with a figure is measured from its first point on.
pub extent_is : (m : Matrix) (seg : Seg) (segs rest : List Seg) → segs ≡ seg ∷ rest → begins_figure segs ≡ true
    → largest_from (scaled_point m (end_point origin seg)) (walk_points m (end_point origin seg) rest) ≡ drawing_extent m segs
extent_is m (Move p) segs rest is begins = ap (largest_from (scaled_point m p)) (sym (figures_walk m p rest)) ∙ ap (drawing_extent m) (sym is)
extent_is m (Line p) segs rest is begins = absurd (cc (is, begins))
extent_is m (Cubic b c d) segs rest is begins = absurd (cc (is, begins))
extent_is m (Spline controls closed) segs rest is begins = absurd (cc (is, begins))

pub first_and_rest : {X : Type 0} (xs : List X) (d : X) → 0 < length xs → xs ≡ get_or xs 0 d ∷ drop 1 xs
first_and_rest [] d some = absurd (omega arith)
first_and_rest (x ∷ xs) d some = refl

-- A loop over the steps of a curve has added one more point.
pub curve_more : {X : Type 0} (f : ℕ → X) (old now new : List X) (a u : ℕ) → a ≤ u → now ≡ old ++ map f (range_with_len a (u - a)) → new ≡ now ++ f u ∷ [] → new ≡ old ++ map f (range_with_len a (u + 1 - a))
curve_more f old now new a u order was is =
    let e : u + 1 - a ≡ u - a + 1 = omega arith in
    is ∙ ap (λ xs. xs ++ f u ∷ []) was ∙ append_assoc old (map f (range_with_len a (u - a))) (f u ∷ [])
    ∙ ap (λ xs. old ++ xs) (sym (map-range_with_len_more f a (u - a) u (omega arith))) ∙ ap (λ n. old ++ map f (range_with_len a n)) (sym e)

-- A spline of three points or fewer has no piece.
pub spline_short : (m : Matrix) (controls : List Point) → length controls < 4 → spline_points (map (scaled_point m) controls) ≡ []
spline_short m [] few = refl
spline_short m (a ∷ []) few = refl
spline_short m (a ∷ b ∷ []) few = refl
spline_short m (a ∷ b ∷ c ∷ []) few = refl
spline_short m (a ∷ b ∷ c ∷ d ∷ rest) few = absurd (omega arith)

pub three_and_rest : {X : Type 0} (xs : List X) (d : X) → 3 ≤ length xs → xs ≡ get_or xs 0 d ∷ get_or xs 1 d ∷ get_or xs 2 d ∷ drop 3 xs
three_and_rest [] d some = absurd (omega arith)
three_and_rest (x ∷ []) d some = absurd (omega arith)
three_and_rest (x ∷ y ∷ []) d some = absurd (omega arith)
three_and_rest (x ∷ y ∷ z ∷ rest) d some = refl

-- One more control point adds one more piece.
pub pieces_more : (m : Matrix) (a b c : Point) (xs : List Point) (i : ℕ) (e : Point) → i < length xs
    → spline_points (a ∷ b ∷ c ∷ map (scaled_point m) (drop i xs)) ≡ piece_points a b c (scaled_point m (get_or xs i e)) ++ spline_points (b ∷ c ∷ scaled_point m (get_or xs i e) ∷ map (scaled_point m) (drop (i + 1) xs))
pieces_more m a b c xs i e within = at_drop_more (λ ys. spline_points (a ∷ b ∷ c ∷ map (scaled_point m) ys)) xs i e within

pub pieces_all : (m : Matrix) (a b c : Point) (xs : List Point) (i : ℕ) → length xs ≤ i → spline_points (a ∷ b ∷ c ∷ map (scaled_point m) (drop i xs)) ≡ []
pieces_all m a b c xs i past = at_drop_all (λ ys. spline_points (a ∷ b ∷ c ∷ map (scaled_point m) ys)) xs i past

pub pieces_step : (m : Matrix) (a b c d : Point) (xs : List Point) (i : ℕ) (e : Point) (now new : List Point) → i < length xs → d ≡ scaled_point m (get_or xs i e) → new ≡ now ++ piece_points a b c d
    → new ++ spline_points (b ∷ c ∷ d ∷ map (scaled_point m) (drop (i + 1) xs)) ≡ now ++ spline_points (a ∷ b ∷ c ∷ map (scaled_point m) (drop i xs))
pieces_step m a b c d xs i e now new within is added =
    let rest = spline_points (b ∷ c ∷ d ∷ map (scaled_point m) (drop (i + 1) xs)) in
    ap (λ ps. ps ++ rest) added ∙ append_assoc now (piece_points a b c d) rest
    ∙ ap (λ p. now ++ (piece_points a b c p ++ spline_points (b ∷ c ∷ p ∷ map (scaled_point m) (drop (i + 1) xs)))) is
    ∙ ap (λ ps. now ++ ps) (sym (pieces_more m a b c xs i e within))

-- One more segment is measured.
pub extent_more : (m : Matrix) (v w p q : Point) (segs : List Seg) (i : ℕ) (seg : Seg) (points : List Point) → i < length segs → seg ≡ get_or segs i seg
    → w ≡ end_point v seg → points ≡ segment_points m v seg → q ≡ largest_from p points
    → largest_from q (walk_points m w (drop (i + 1) segs)) ≡ largest_from p (walk_points m v (drop i segs))
extent_more m v w p q segs i seg points within seg_is w_is points_are q_is =
    ap (λ r. largest_from r (walk_points m w (drop (i + 1) segs))) (q_is ∙ ap (largest_from p) points_are)
    ∙ sym (largest_from-append p (segment_points m v seg) (walk_points m w (drop (i + 1) segs)))
    ∙ ap (λ r. largest_from p (segment_points m v seg ++ walk_points m r (drop (i + 1) segs))) w_is
    ∙ ap (λ s. largest_from p (segment_points m v s ++ walk_points m (end_point v s) (drop (i + 1) segs))) seg_is
    ∙ sym (at_drop_more (λ ss. largest_from p (walk_points m v ss)) segs i seg within)

pub extent_whole : (m : Matrix) (segs list : List Seg) (seg : Seg) (v p : Point) → list ≡ segs → 0 < length list → seg ≡ get_or list 0 seg → begins_figure segs ≡ true
    → v ≡ end_point origin seg → p ≡ scaled_point m v → largest_from p (walk_points m v (take (length list - 1) (drop 1 list))) ≡ drawing_extent m segs
extent_whole m segs list seg v p same some seg_is begins v_is p_is =
    ap (λ q. largest_from q (walk_points m v (take (length list - 1) (drop 1 list)))) p_is
    ∙ ap (λ q. largest_from (scaled_point m q) (walk_points m q (take (length list - 1) (drop 1 list)))) v_is
    ∙ ap (λ ss. largest_from (scaled_point m (end_point origin seg)) (walk_points m (end_point origin seg) ss)) (take_rest list 1)
    ∙ extent_is m seg segs (drop 1 list) (sym same ∙ first_and_rest list seg some ∙ ap (λ s. s ∷ drop 1 list) (sym seg_is)) begins
