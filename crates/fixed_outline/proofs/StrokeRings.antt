-- The rings of contours of strokes.
use Rattle.std.proofs.Common.{◌≡◌, ℕ, ◌+◌, ◌<◌, ◌≤◌, Bool, true, false, ℤ, pos, List, [], ◌∷◌, ◌++◌, length, map, drop, get_or, refl, sym, ap, ◌∙◌, append_assoc}
use Rattle.std.proofs.lemmas.List.{append-nil, at_drop_all, at_drop_more, map-append}
use Rattle.ass_num.specs.Limits.{IsPointWithin}
use Rattle.ass_num.specs.declared.geometry.Matrix.{Matrix}
use Rattle.ass_num.specs.declared.geometry.Point.{Point}
use Rattle.outline_points.specs.CubicContours.{IsGlyphStroke, max_stroke, moved_stroke_rings, points_from, stroke_end, stroke_points, stroke_ring, stroke_rings}
use Rattle.outline_points.specs.Contours.{bold_shift}
use Rattle.outline_points.specs.Placing.{outline_point}
use Rattle.outline_points.specs.declared.stroke.Stroke.{Stroke}
use Rattle.outline_points.specs.declared.stroke.Stroke.TheVariants.{Line, Curve}

-- A stroke's points, and then those of the strokes behind it.
pub strokes-next : (m : Matrix) (shift : ℤ) (contour : List Stroke) (k : ℕ) (d : Stroke) (from next : Point) (ring new : List Point) → k < length contour → next ≡ stroke_end (get_or contour k d)
    → new ≡ ring ++ map (outline_point m.turn) (stroke_points m shift from (get_or contour k d))
    → new ++ map (outline_point m.turn) (points_from m shift next (drop (k + 1) contour)) ≡ ring ++ map (outline_point m.turn) (points_from m shift from (drop k contour))
strokes-next m shift contour k d from next ring new less next_is added =
    let place : Point → Point = outline_point m.turn in
    let here = stroke_points m shift from (get_or contour k d) in
    let rest = points_from m shift (stroke_end (get_or contour k d)) (drop (k + 1) contour) in
    ap (λ ps. ps ++ map place (points_from m shift next (drop (k + 1) contour))) added
    ∙ (ap (λ p. (ring ++ map place here) ++ map place (points_from m shift p (drop (k + 1) contour))) next_is
    ∙ (append_assoc ring (map place here) (map place rest)
    ∙ (ap (λ ps. ring ++ ps) (sym (map-append place here rest))
    ∙ ap (λ ps. ring ++ map place ps) (sym (at_drop_more (points_from m shift from) contour k d less)))))

pub strokes-all : (m : Matrix) (shift : ℤ) (contour : List Stroke) (k : ℕ) (from : Point) (ring : List Point) → length contour ≤ k
    → ring ++ map (outline_point m.turn) (points_from m shift from (drop k contour)) ≡ ring
strokes-all m shift contour k from ring whole = ap (λ ps. ring ++ map (outline_point m.turn) ps) (at_drop_all (points_from m shift from) contour k whole) ∙ append-nil ring

-- A ring of its points.
pub ring_added : (m : Matrix) (shift : ℤ) (contour : List Stroke) (none all : List Point) (rings new : List (List Point)) → none ≡ []
    → all ≡ none ++ map (outline_point m.turn) (points_from m shift (record { x = pos 0; y = pos 0 }) contour)
    → new ≡ rings ++ all ∷ [] → new ≡ rings ++ stroke_ring m shift contour ∷ []
ring_added m shift contour none all rings new a b c = rw (c, b, a) refl

-- The rings of a bold glyph, and of another.
pub strokes_bold : (m : Matrix) (bold : Bool) (step : ℤ) (contours : List (List Stroke)) (rings first second : List (List Point)) → bold ≡ true
    → first ≡ rings ++ moved_stroke_rings m (pos 0) contours → second ≡ first ++ moved_stroke_rings m (bold_shift m step) contours → second ≡ rings ++ stroke_rings m bold step contours
strokes_bold m bold step contours rings first second is p q =
    q ∙ ap (λ rs. rs ++ moved_stroke_rings m (bold_shift m step) contours) p ∙ append_assoc rings (moved_stroke_rings m (pos 0) contours) (moved_stroke_rings m (bold_shift m step) contours)
    ∙ ap (λ t. rings ++ stroke_rings m t step contours) (sym is)

pub strokes_plain : (m : Matrix) (bold : Bool) (step : ℤ) (contours : List (List Stroke)) (rings first : List (List Point)) → bold ≡ false
    → first ≡ rings ++ moved_stroke_rings m (pos 0) contours → first ≡ rings ++ stroke_rings m bold step contours
strokes_plain m bold step contours rings first is p =
    p ∙ ap (λ rs. rings ++ rs) (sym (append-nil (moved_stroke_rings m (pos 0) contours))) ∙ ap (λ t. rings ++ stroke_rings m t step contours) (sym is)

-- A stroke's end lies where its points may.
pub end_within : (stroke : Stroke) → IsGlyphStroke stroke → IsPointWithin max_stroke (stroke_end stroke)
end_within (Line p) h = h
end_within (Curve b c d) h = h.2
