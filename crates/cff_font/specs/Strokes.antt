-- Public: what path operators draw: lines and curves, each by steps from point to point (Adobe Technical Note 5177, "Path Construction Operators").
use Rattle.std.specs.Prelude.{ℕ, ◌-◌, ◌%◌, Bool, true, false, not, ◌==◌, nat_lt, nat_le, if◌then◌else◌, List, [], ◌∷◌, ◌++◌, length, take, drop, Option, Some, None, option_map, option_and_then, ℤ, pos, neg_ℤ, ◌+ℤ◌, unsigned_abs, int_le, ◌&&◌}
use Rattle.ass_num.specs.declared.geometry.Point.{Point}
use Rattle.outline_points.specs.CubicContours.{max_stroke}
use Rattle.cff_font.specs.declared.flex.Flex.{Flex}
use Rattle.outline_points.specs.declared.stroke.Stroke.{Stroke}
use Rattle.outline_points.specs.declared.stroke.Stroke.TheVariants.{Line, Curve}

-- a coordinate that isn't too far from 0
abbrev pub glyph_coordinate : ℤ → Option ℤ
glyph_coordinate z = if int_le (neg_ℤ (pos max_stroke)) z && int_le z (pos max_stroke) then Some z else None

abbrev pub point_of : Option ℤ → Option ℤ → Option Point
point_of (Some x) (Some y) = Some (record { x = x; y = y })
point_of x y = None

-- the point that is a step behind another, or nothing where it is too far from 0
abbrev pub point_behind : Point → Point → Option Point
point_behind p by = point_of (glyph_coordinate (p.x +ℤ by.x)) (glyph_coordinate (p.y +ℤ by.y))

abbrev pub step : ℤ → ℤ → Point
step x y = record { x = x; y = y }

-- a step along an axis, and one across it
abbrev pub step_along : Bool → ℤ → ℤ → Point
step_along is_level along across = if is_level then step along across else step across along

-- lines by two numbers each
abbrev pub stroke_lines : List ℤ → List Stroke
stroke_lines (x ∷ y ∷ rest) = Line (step x y) ∷ stroke_lines rest
stroke_lines _ = []

-- lines that are level and upright in turn
abbrev pub turning_lines : Bool → List ℤ → List Stroke
turning_lines is_level [] = []
turning_lines is_level (d ∷ rest) = Line (step_along is_level d (pos 0)) ∷ turning_lines (not is_level) rest

-- curves by six numbers each
abbrev pub curves_of : List ℤ → List Stroke
curves_of (a ∷ b ∷ c ∷ d ∷ e ∷ f ∷ rest) = Curve (step a b) (step c d) (step e f) ∷ curves_of rest
curves_of _ = []

-- Curves by four numbers each, which begin and end level, or upright; the first begins so but for `aside`.
abbrev pub even_curves : Bool → ℤ → List ℤ → List Stroke
even_curves is_level aside (a ∷ b ∷ c ∷ d ∷ rest) = Curve (step_along is_level a aside) (step b c) (step_along is_level d (pos 0)) ∷ even_curves is_level (pos 0) rest
even_curves is_level aside _ = []

-- the same, with `aside` in front where the count isn't one of four each
abbrev pub even_curves_of : Bool → List ℤ → List Stroke
even_curves_of is_level [] = []
even_curves_of is_level (aside ∷ rest) = if length rest % 4 == 0 then even_curves is_level aside rest else even_curves is_level (pos 0) (aside ∷ rest)

-- a number that is the only one left, or 0
abbrev pub sole : List ℤ → ℤ
sole (a ∷ []) = a
sole _ = pos 0

-- Curves by four numbers each, which begin level and end upright, or the other way, in turn; the last ends so but for a fifth number.
abbrev pub turning_curves : Bool → List ℤ → List Stroke
turning_curves is_level (a ∷ b ∷ c ∷ d ∷ rest) = Curve (step_along is_level a (pos 0)) (step b c) (step_along (not is_level) d (sole rest)) ∷ turning_curves (not is_level) rest
turning_curves is_level _ = []

-- ---- flex: two curves

-- a curve by six numbers
abbrev pub curve_by : ℤ → ℤ → ℤ → ℤ → ℤ → ℤ → Stroke
curve_by a b c d e f = Curve (step a b) (step c d) (step e f)

-- the point behind steps of two numbers each; nothing where one on the way is too far from the first
abbrev pub end_of_steps : Point → List ℤ → Option Point
end_of_steps p (x ∷ y ∷ rest) = option_and_then (λ q. end_of_steps q rest) (point_behind p (step x y))
end_of_steps p _ = Some p

abbrev pub origin : Point
origin = record { x = pos 0; y = pos 0 }

-- hflex, whose steps but two are level, and which ends at the height where it began, `far` from it in between
abbrev pub level_flex_by : ℤ → ℤ → ℤ → ℤ → ℤ → ℤ → ℤ → Point → Flex
level_flex_by a b c d e f g far = record { first = curve_by a (pos 0) b c d (pos 0); second = curve_by e (pos 0) f (neg_ℤ far.y) g (pos 0) }

abbrev pub level_flex : List ℤ → Option Flex
level_flex (a ∷ b ∷ c ∷ d ∷ e ∷ f ∷ g ∷ []) = option_map (level_flex_by a b c d e f g) (point_behind origin (step b c))
level_flex _ = None

-- hflex1, whose third and fourth steps are level, and whose last one goes back to the height where it began
abbrev pub closed_flex_by : ℤ → ℤ → ℤ → ℤ → ℤ → ℤ → ℤ → ℤ → ℤ → Point → Flex
closed_flex_by a b c d e f g h i far = record { first = curve_by a b c d e (pos 0); second = curve_by f (pos 0) g h i (neg_ℤ far.y) }

abbrev pub closed_flex : List ℤ → Option Flex
closed_flex (a ∷ b ∷ c ∷ d ∷ e ∷ f ∷ g ∷ h ∷ i ∷ []) = option_map (closed_flex_by a b c d e f g h i) (end_of_steps origin (a ∷ b ∷ c ∷ d ∷ g ∷ h ∷ []))
closed_flex _ = None

-- The last step of flex1: the number is its part along the axis along which the steps before, up to `far`, lead farther;
-- across it the step goes back.
abbrev pub last_step : Point → ℤ → Point
last_step far last = if nat_lt (unsigned_abs far.y) (unsigned_abs far.x) then step last (neg_ℤ far.y) else step (neg_ℤ far.x) last

-- flex1
abbrev pub free_flex_by : ℤ → ℤ → ℤ → ℤ → ℤ → ℤ → ℤ → ℤ → ℤ → ℤ → ℤ → Point → Flex
free_flex_by a b c d e f g h i j last far = record { first = curve_by a b c d e f; second = Curve (step g h) (step i j) (last_step far last) }

abbrev pub free_flex : List ℤ → Option Flex
free_flex (a ∷ b ∷ c ∷ d ∷ e ∷ f ∷ g ∷ h ∷ i ∷ j ∷ last ∷ []) =
    option_map (free_flex_by a b c d e f g h i j last) (end_of_steps origin (a ∷ b ∷ c ∷ d ∷ e ∷ f ∷ g ∷ h ∷ i ∷ j ∷ []))
free_flex _ = None

abbrev pub both_curves : Flex → List Stroke
both_curves flex = flex.first ∷ flex.second ∷ []

-- ---- operators

-- strokes, where the count of operands is one that their operator may have
abbrev pub strokes_if : Bool → List Stroke → Option (List Stroke)
strokes_if may strokes = if may then Some strokes else None

-- rlineto, and rrcurveto
abbrev pub line_strokes : List ℤ → Option (List Stroke)
line_strokes operands = strokes_if (length operands % 2 == 0) (stroke_lines operands)

abbrev pub curve_strokes : List ℤ → Option (List Stroke)
curve_strokes operands = strokes_if (length operands % 6 == 0) (curves_of operands)

-- rcurveline, and rlinecurve
abbrev pub curves_then_line : List ℤ → Option (List Stroke)
curves_then_line operands = strokes_if (length operands % 6 == 2) (curves_of operands ++ stroke_lines (drop (length operands - 2) operands))

abbrev pub lines_then_curve : List ℤ → Option (List Stroke)
lines_then_curve operands =
    strokes_if (nat_le 6 (length operands) && (length operands % 2 == 0))
    (stroke_lines (take (length operands - 6) operands) ++ curves_of (drop (length operands - 6) operands))

-- hhcurveto or vvcurveto, and hvcurveto or vhcurveto: curves of four numbers each, one of which may have a fifth
abbrev pub even_strokes : Bool → List ℤ → Option (List Stroke)
even_strokes is_level operands = strokes_if (nat_lt (length operands % 4) 2) (even_curves_of is_level operands)

abbrev pub turning_strokes : Bool → List ℤ → Option (List Stroke)
turning_strokes is_level operands = strokes_if (nat_lt (length operands % 4) 2) (turning_curves is_level operands)

-- flex, whose last operand is passed over
abbrev pub flex_strokes : List ℤ → Option (List Stroke)
flex_strokes operands = strokes_if (length operands == 13) (curves_of operands)

-- hflex, flex, hflex1 and flex1: 12 34 to 12 37
abbrev pub escaped_strokes : ℕ → List ℤ → Option (List Stroke)
escaped_strokes code operands =
    if code == 3106 then option_map both_curves (level_flex operands)
    else if code == 3107 then flex_strokes operands
    else if code == 3108 then option_map both_curves (closed_flex operands)
    else if code == 3109 then option_map both_curves (free_flex operands)
    else None

abbrev pub four_strokes : ℕ → List ℤ → Option (List Stroke)
four_strokes code operands =
    if code == 26 then even_strokes false operands
    else if code == 27 then even_strokes true operands
    else if code == 30 then turning_strokes false operands
    else if code == 31 then turning_strokes true operands
    else escaped_strokes code operands

-- The strokes of a path operator with these operands; nothing where it is no path operator, or has another count of operands.
abbrev pub strokes_of : ℕ → List ℤ → Option (List Stroke)
strokes_of code operands =
    if code == 5 then line_strokes operands
    else if code == 6 then Some (turning_lines true operands)
    else if code == 7 then Some (turning_lines false operands)
    else if code == 8 then curve_strokes operands
    else if code == 24 then curves_then_line operands
    else if code == 25 then lines_then_curve operands
    else four_strokes code operands
