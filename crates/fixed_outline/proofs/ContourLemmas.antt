-- The rings of contours, point by point.
use Rattle.std.proofs.Common.{◌≡◌, ℕ, Bool, true, false, ℤ, pos, List, [], ◌∷◌, ◌++◌, length, map, flat_map, refl, sym, ap, ◌∙◌, append_assoc}
use Rattle.std.proofs.lemmas.List.{append-nil, map-append}
use Rattle.ass_num.specs.declared.geometry.Matrix.{Matrix}
use Rattle.ass_num.specs.declared.geometry.Point.{Point}
use Rattle.outline_points.specs.Contours.{bold_shift, contour_point, contour_points, contour_ring, contour_rings, curve_end, moved_rings, place_before, place_behind, point_at, points_at, points_between, quadratic_points}
use Rattle.outline_points.specs.Placing.{outline_point}
use Rattle.outline_points.specs.declared.glyph_point.GlyphPoint.{GlyphPoint}

pub map-flat_map : {X Y Z : Type 0} (f : Y → Z) (g : X → List Y) (xs : List X) → map f (flat_map g xs) ≡ flat_map (λ x. map f (g x)) xs
map-flat_map f g [] = refl
map-flat_map f g (x ∷ xs) = map-append f (g x) (flat_map g xs) ∙ ap (λ ys. map f (g x) ++ ys) (map-flat_map f g xs)

-- A point on the contour adds itself, and another a curve.
pub between_on : (m : Matrix) (shift : ℤ) (before here behind : GlyphPoint) → here.is_on ≡ true → points_between m shift before here behind ≡ contour_point m shift here ∷ []
between_on m shift before here behind on = rw on refl

pub between_off : (m : Matrix) (shift : ℤ) (before here behind : GlyphPoint) (a b c p q : Point) → here.is_on ≡ false → b ≡ contour_point m shift here
    → p ≡ contour_point m shift before → q ≡ contour_point m shift behind → a ≡ curve_end before.is_on p b → c ≡ curve_end behind.is_on q b
    → quadratic_points a b c behind.is_on ≡ points_between m shift before here behind
between_off m shift before here behind a b c p q off at first second from to = rw (off, from, to, first, second, at) refl

-- The points that are read at the three places.
pub between_at : (m : Matrix) (shift : ℤ) (contour : List GlyphPoint) (i : ℕ) (before here behind : GlyphPoint)
    → before ≡ point_at contour (place_before (length contour) i) → here ≡ point_at contour i → behind ≡ point_at contour (place_behind (length contour) i)
    → points_between m shift before here behind ≡ points_at m shift contour i
between_at m shift contour i before here behind a b c = rw (a, b, c) refl

-- A ring of its points.
pub ring_added : (m : Matrix) (shift : ℤ) (contour : List GlyphPoint) (none all : List Point) (rings new : List (List Point)) → none ≡ [] → all ≡ none ++ map (outline_point m.turn) (contour_points m shift contour)
    → new ≡ rings ++ all ∷ [] → new ≡ rings ++ contour_ring m shift contour ∷ []
ring_added m shift contour none all rings new a b c = rw (c, b, a) refl

-- The rings of a bold glyph, and of another.
pub contours_bold : (m : Matrix) (bold : Bool) (step : ℤ) (contours : List (List GlyphPoint)) (rings first second : List (List Point)) → bold ≡ true
    → first ≡ rings ++ moved_rings m (pos 0) contours → second ≡ first ++ moved_rings m (bold_shift m step) contours → second ≡ rings ++ contour_rings m bold step contours
contours_bold m bold step contours rings first second is p q =
    q ∙ ap (λ rs. rs ++ moved_rings m (bold_shift m step) contours) p ∙ append_assoc rings (moved_rings m (pos 0) contours) (moved_rings m (bold_shift m step) contours)
    ∙ ap (λ t. rings ++ contour_rings m t step contours) (sym is)

pub contours_plain : (m : Matrix) (bold : Bool) (step : ℤ) (contours : List (List GlyphPoint)) (rings first : List (List Point)) → bold ≡ false
    → first ≡ rings ++ moved_rings m (pos 0) contours → first ≡ rings ++ contour_rings m bold step contours
contours_plain m bold step contours rings first is p =
    p ∙ ap (λ rs. rings ++ rs) (sym (append-nil (moved_rings m (pos 0) contours))) ∙ ap (λ t. rings ++ contour_rings m t step contours) (sym is)
