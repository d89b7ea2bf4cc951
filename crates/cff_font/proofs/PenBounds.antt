-- No point that the pen draws lies far from 0.
use Rattle.std.proofs.Common.{◌≡◌, true, false, Bool, if◌then◌else◌, List, [], ◌∷◌, Option, Some, None, ℤ, pos, neg_ℤ, ◌+ℤ◌, ◌*ℤ◌, ◌≤ℤ◌, int_le, refl}
use Rattle.std.specs.Prelude.{◌&&◌, IfSome, option_and_then, option_map}
use Rattle.std.specs.List.{All}
use Rattle.std.proofs.lemmas.List.Elements.{All-nil, All-cons, All-push}
use Rattle.ass_num.specs.Floor.{floor_div}
use Rattle.ass_num.specs.Limits.{IsWithin, IsPointWithin}
use Rattle.ass_num.specs.declared.geometry.Point.{Point}
use Rattle.ass_num.proofs.OrderLemmas.{le_is}
use Rattle.cff_font.specs.declared.decimals.FontMatrix.{FontMatrix}
use Rattle.cff_font.specs.declared.pens.GlyphPen.{GlyphPen}
use Rattle.outline_points.specs.declared.stroke.Stroke.{Stroke}
use Rattle.outline_points.specs.declared.stroke.Stroke.TheVariants.{Line, Curve}
use Rattle.outline_points.specs.CubicContours.{IsGlyphStroke}
use Rattle.cff_font.specs.Matrices.{all_or_none, contours_behind, transformed, transformed_contour, transformed_point, transformed_stroke}
use Rattle.cff_font.specs.Pens.{begun_contour, closed_contours, moved_pen, lifted_pen, lowered_pen, pen_behind, line_to, curve_to, drawn_curve, drawn_stroke, drawn_strokes}
use Rattle.outline_points.specs.CubicContours.{max_stroke}
use Rattle.cff_font.specs.Strokes.{glyph_coordinate, point_of, point_behind}

pub if_then : {X Y : Type 0} (o : Option X) (f : X → Option Y) (P : X → Type 0) (Q : Y → Type 0) → IfSome o P → ((x : X) → P x → IfSome (f x) Q) → IfSome (option_and_then f o) Q
if_then None f P Q h next = tt
if_then (Some x) f P Q h next = next x h

pub if_map : {X Y : Type 0} (o : Option X) (f : X → Y) (P : X → Type 0) (Q : Y → Type 0) → IfSome o P → ((x : X) → P x → Q (f x)) → IfSome (option_map f o) Q
if_map None f P Q h next = tt
if_map (Some x) f P Q h next = next x h

held_by : (z : ℤ) (low high : Bool) → ((low ≡ true) → neg_ℤ (pos max_stroke) ≤ℤ z) → ((high ≡ true) → z ≤ℤ pos max_stroke) → IfSome (if low && high then Some z else None) (IsWithin max_stroke)
held_by z true true low high = (low refl, high refl)
held_by z true false low high = tt
held_by z false high low most = tt

held-within : (z : ℤ) → IfSome (glyph_coordinate z) (IsWithin max_stroke)
held-within z = held_by z (int_le (neg_ℤ (pos max_stroke)) z) (int_le z (pos max_stroke)) (le_is (neg_ℤ (pos max_stroke)) z) (le_is z (pos max_stroke))

pub point_of-within : (x y : Option ℤ) → IfSome x (IsWithin max_stroke) → IfSome y (IsWithin max_stroke) → IfSome (point_of x y) (IsPointWithin max_stroke)
point_of-within None y hx hy = tt
point_of-within (Some x) None hx hy = tt
point_of-within (Some x) (Some y) hx hy = record { x = hx; y = hy }

behind-within : (p by : Point) → IfSome (point_behind p by) (IsPointWithin max_stroke)
behind-within p by = point_of-within (glyph_coordinate (p.x +ℤ by.x)) (glyph_coordinate (p.y +ℤ by.y)) (held-within (p.x +ℤ by.x)) (held-within (p.y +ℤ by.y))

-- ---- behind a matrix

all-within : {X Y : Type 0} (f : X → Option Y) (P : Y → Type 0) (xs : List X) → ((x : X) → IfSome (f x) P) → IfSome (all_or_none f xs) (All P)
all-within f P [] each = All-nil P
all-within f P (x ∷ xs) each =
    if_then (f x) (λ first. option_map (λ others. first ∷ others) (all_or_none f xs)) P (All P) (each x) (λ first k.
    if_map (all_or_none f xs) (λ others. first ∷ others) (All P) (All P) (all-within f P xs each) (λ others ks. All-cons P first others k ks))

transformed-within : (a x b y shift : ℤ) → IfSome (transformed a x b y shift) (IsWithin max_stroke)
transformed-within a x b y shift = held-within (floor_div ((a *ℤ x) +ℤ (b *ℤ y) +ℤ pos 32768) (pos 65536) +ℤ shift)

transformed-point-within : (m : FontMatrix) (p : Point) → IfSome (transformed_point m p) (IsPointWithin max_stroke)
transformed-point-within m p = point_of-within (transformed m.xx p.x m.xy p.y m.x) (transformed m.yx p.x m.yy p.y m.y) (transformed-within m.xx p.x m.xy p.y m.x) (transformed-within m.yx p.x m.yy p.y m.y)

transformed-stroke-within : (m : FontMatrix) (stroke : Stroke) → IfSome (transformed_stroke m stroke) IsGlyphStroke
transformed-stroke-within m (Line p) = if_map (transformed_point m p) Line (IsPointWithin max_stroke) IsGlyphStroke (transformed-point-within m p) (λ q k. k)
transformed-stroke-within m (Curve p q r) =
    if_then (transformed_point m p) (λ a. option_and_then (λ b. option_map (Curve a b) (transformed_point m r)) (transformed_point m q)) (IsPointWithin max_stroke) IsGlyphStroke (transformed-point-within m p) (λ a ha.
    if_then (transformed_point m q) (λ b. option_map (Curve a b) (transformed_point m r)) (IsPointWithin max_stroke) IsGlyphStroke (transformed-point-within m q) (λ b hb.
    if_map (transformed_point m r) (Curve a b) (IsPointWithin max_stroke) IsGlyphStroke (transformed-point-within m r) (λ c hc. (ha, hb, hc))))

pub behind-matrix-within : (m : Option FontMatrix) (contours : List (List Stroke)) → All (All IsGlyphStroke) contours → IfSome (contours_behind m contours) (All (All IsGlyphStroke))
behind-matrix-within None contours h = h
behind-matrix-within (Some m) contours h =
    all-within (transformed_contour m) (All IsGlyphStroke) contours (λ contour. all-within (transformed_stroke m) IsGlyphStroke contour (transformed-stroke-within m))

-- ---- pens

-- Where the pen stands is within, and so is all that it drew.
pub record IsGoodPen (pen : GlyphPen) : Type 0 where
  pub at : IsPointWithin max_stroke pen.at
  pub contour : All IsGlyphStroke pen.contour
  pub contours : All (All IsGlyphStroke) pen.contours

pub closed-within : (contours : List (List Stroke)) (contour : List Stroke) → All (All IsGlyphStroke) contours → All IsGlyphStroke contour → All (All IsGlyphStroke) (closed_contours contours contour)
closed-within contours [] h k = h
closed-within contours (stroke ∷ strokes) h k = All-push (All IsGlyphStroke) contours (stroke ∷ strokes) h k

pub good-moved : (pen : GlyphPen) (by : Point) → IsGoodPen pen → IfSome (moved_pen pen by) IsGoodPen
good-moved pen by h =
    if_map (point_behind pen.at by) (lifted_pen (closed_contours pen.contours pen.contour)) (IsPointWithin max_stroke) IsGoodPen (behind-within pen.at by)
    (λ p k. record { at = k; contour = All-nil IsGlyphStroke; contours = closed-within pen.contours pen.contour h.contours h.contour })

begun-within : (contour : List Stroke) (p : Point) → All IsGlyphStroke contour → IsPointWithin max_stroke p → All IsGlyphStroke (begun_contour contour p)
begun-within [] p h k = All-cons IsGlyphStroke (Line p) [] k (All-nil IsGlyphStroke)
begun-within (stroke ∷ strokes) p h k = h

good-lowered : (pen : GlyphPen) → IsGoodPen pen → IsGoodPen (lowered_pen pen)
good-lowered pen h = record { at = h.at; contour = begun-within pen.contour pen.at h.contour h.at; contours = h.contours }

good-behind : (pen : GlyphPen) (p : Point) (drawn : Stroke) → IsGoodPen pen → IsPointWithin max_stroke p → IsGlyphStroke drawn → IsGoodPen (pen_behind pen p drawn)
good-behind pen p drawn h at held = record { at = at; contour = All-push IsGlyphStroke pen.contour drawn h.contour held; contours = h.contours }

good-curve : (pen : GlyphPen) (a b c : Point) → IsGoodPen pen → IfSome (drawn_curve pen a b c) IsGoodPen
good-curve pen a b c h =
    if_then (point_behind pen.at a) (λ p. option_and_then (λ q. option_map (curve_to pen p q) (point_behind q c)) (point_behind p b)) (IsPointWithin max_stroke) IsGoodPen (behind-within pen.at a) (λ p hp.
    if_then (point_behind p b) (λ q. option_map (curve_to pen p q) (point_behind q c)) (IsPointWithin max_stroke) IsGoodPen (behind-within p b) (λ q hq.
    if_map (point_behind q c) (curve_to pen p q) (IsPointWithin max_stroke) IsGoodPen (behind-within q c) (λ r hr.
    good-behind pen r (Curve p q r) h hr (hp, hq, hr))))

good-stroke : (pen : GlyphPen) (stroke : Stroke) → IsGoodPen pen → IfSome (drawn_stroke pen stroke) IsGoodPen
good-stroke pen (Line a) h =
    if_map (point_behind pen.at a) (line_to pen) (IsPointWithin max_stroke) IsGoodPen (behind-within pen.at a) (λ p k. good-behind pen p (Line p) h k k)
good-stroke pen (Curve a b c) h = good-curve pen a b c h

pub good-strokes : (pen : GlyphPen) (strokes : List Stroke) → IsGoodPen pen → IfSome (drawn_strokes pen strokes) IsGoodPen
good-strokes pen [] h = h
good-strokes pen (stroke ∷ strokes) h =
    if_then (drawn_stroke (lowered_pen pen) stroke) (λ next. drawn_strokes next strokes) IsGoodPen IsGoodPen
    (good-stroke (lowered_pen pen) stroke (good-lowered pen h)) (λ next k. good-strokes next strokes k)
