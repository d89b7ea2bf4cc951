-- Public: how strokes become contours, in 1/65,536 of a unit, y upwards.
use Rattle.std.specs.Prelude.{List, [], ◌∷◌, ◌++◌, Option, Some, option_map, option_and_then}
use Rattle.ass_num.specs.declared.geometry.Point.{Point}
use Rattle.cff_font.specs.declared.pens.GlyphPen.{GlyphPen}
use Rattle.outline_points.specs.declared.stroke.Stroke.{Stroke}
use Rattle.outline_points.specs.declared.stroke.Stroke.TheVariants.{Line, Curve}
use Rattle.cff_font.specs.Strokes.{point_behind, origin}

-- before anything is drawn
abbrev pub first_pen : GlyphPen
first_pen = record { at = origin; contour = []; contours = [] }

-- all contours, with the one that is drawn
abbrev pub closed_contours : List (List Stroke) → List Stroke → List (List Stroke)
closed_contours contours [] = contours
closed_contours contours (stroke ∷ strokes) = contours ++ (stroke ∷ strokes) ∷ []

abbrev pub lifted_pen : List (List Stroke) → Point → GlyphPen
lifted_pen contours p = record { at = p; contour = []; contours = contours }

-- the pen a step farther; the contour that it drew is closed
abbrev pub moved_pen : GlyphPen → Point → Option GlyphPen
moved_pen pen by = option_map (lifted_pen (closed_contours pen.contours pen.contour)) (point_behind pen.at by)

-- A contour begins only where something is drawn, with a line to the point where the pen stands.
abbrev pub begun_contour : List Stroke → Point → List Stroke
begun_contour [] p = Line p ∷ []
begun_contour (stroke ∷ strokes) p = stroke ∷ strokes

abbrev pub lowered_pen : GlyphPen → GlyphPen
lowered_pen pen = record { at = pen.at; contour = begun_contour pen.contour pen.at; contours = pen.contours }

-- the pen behind a stroke to a point
abbrev pub pen_behind : GlyphPen → Point → Stroke → GlyphPen
pen_behind pen p drawn = record { at = p; contour = pen.contour ++ drawn ∷ []; contours = pen.contours }

abbrev pub line_to : GlyphPen → Point → GlyphPen
line_to pen p = pen_behind pen p (Line p)

abbrev pub curve_to : GlyphPen → Point → Point → Point → GlyphPen
curve_to pen p q r = pen_behind pen r (Curve p q r)

-- the pen behind a curve by three steps, each from the point of the step before
abbrev pub drawn_curve : GlyphPen → Point → Point → Point → Option GlyphPen
drawn_curve pen a b c =
    option_and_then (λ p. option_and_then (λ q. option_map (curve_to pen p q) (point_behind q c)) (point_behind p b)) (point_behind pen.at a)

-- the pen, which draws a contour, behind a stroke by steps
abbrev pub drawn_stroke : GlyphPen → Stroke → Option GlyphPen
drawn_stroke pen (Line a) = option_map (line_to pen) (point_behind pen.at a)
drawn_stroke pen (Curve a b c) = drawn_curve pen a b c

-- the pen behind strokes; nothing where a point is too far from 0
abbrev pub drawn_strokes : GlyphPen → List Stroke → Option GlyphPen
drawn_strokes pen [] = Some pen
drawn_strokes pen (stroke ∷ strokes) = option_and_then (λ next. drawn_strokes next strokes) (drawn_stroke (lowered_pen pen) stroke)
