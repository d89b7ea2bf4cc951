-- No point of a glyph's contour lies far from 0.
use Rattle.std.proofs.Common.{◌≡◌, ℕ, ◌+◌, true, false, Bool, if◌then◌else◌, List, [], ◌∷◌, ◌++◌, take, drop, Option, Some, None, ℤ, pos, neg_ℤ, ◌≤ℤ◌, int_le, refl}
use Rattle.std.specs.Prelude.{◌&&◌, IfSome, option_and_then}
use Rattle.std.specs.List.{All}
use Rattle.std.proofs.lemmas.List.Elements.{All-nil, All-cons, All-push, All-take, All-drop}
use Rattle.ass_num.specs.Limits.{IsWithin}
use Rattle.ass_num.proofs.OrderLemmas.{le_is}
use Rattle.outline_points.specs.Contours.{IsGlyphPoint}
use Rattle.outline_points.specs.Limits.{max_unit}
use Rattle.outline_points.specs.declared.glyph_point.GlyphPoint.{GlyphPoint}
use Rattle.sfnt_glyphs.specs.declared.drawn.Drawn.{Drawn}
use Rattle.sfnt_font.specs.declared.font.SfntFont.{SfntFont}
use Rattle.sfnt_glyphs.specs.declared.points.Placing.{Placing}
use Rattle.sfnt_glyphs.specs.Glyphs.{held_unit, placed_x, placed_y, point_if, placed_glyph_point, placed_points, moved_right, cut_contours, shifted_contours, contours_or_none, glyph_drawn, max_depth, contours_of}

if_then : {X Y : Type 0} (o : Option X) (f : X → Option Y) (P : X → Type 0) (Q : Y → Type 0) → IfSome o P → ((x : X) → P x → IfSome (f x) Q) → IfSome (option_and_then f o) Q
if_then None f P Q h next = tt
if_then (Some x) f P Q h next = next x h

held_by : (z : ℤ) (low high : Bool) → ((low ≡ true) → neg_ℤ (pos max_unit) ≤ℤ z) → ((high ≡ true) → z ≤ℤ pos max_unit) → IfSome (if low && high then Some z else None) (IsWithin max_unit)
held_by z true true low high = (low refl, high refl)
held_by z true false low high = tt
held_by z false high low most = tt

held_unit-within : (z : ℤ) → IfSome (held_unit z) (IsWithin max_unit)
held_unit-within z = held_by z (int_le (neg_ℤ (pos max_unit)) z) (int_le z (pos max_unit)) (le_is (neg_ℤ (pos max_unit)) z) (le_is z (pos max_unit))

point_if-within : (x y : Option ℤ) (is_on : Bool) → IfSome x (IsWithin max_unit) → IfSome y (IsWithin max_unit) → IfSome (point_if x y is_on) IsGlyphPoint
point_if-within None y is_on hx hy = tt
point_if-within (Some x) None is_on hx hy = tt
point_if-within (Some x) (Some y) is_on hx hy = record { x = hx; y = hy }

placed-within : (placing : Placing) (p : GlyphPoint) → IfSome (placed_glyph_point placing p) IsGlyphPoint
placed-within placing p = point_if-within (held_unit (placed_x placing p)) (held_unit (placed_y placing p)) p.is_on (held_unit-within (placed_x placing p)) (held_unit-within (placed_y placing p))

points_within : (placing : Placing) (points front : List GlyphPoint) → All IsGlyphPoint front → IfSome (placed_points placing points front) (All IsGlyphPoint)
points_within placing [] front h = h
points_within placing (p ∷ points) front h =
    if_then (placed_glyph_point placing p) (λ q. placed_points placing points (front ++ q ∷ [])) IsGlyphPoint (All IsGlyphPoint)
    (placed-within placing p) (λ q k. points_within placing points (front ++ q ∷ []) (All-push IsGlyphPoint front q h k))

cut_within : (sizes : List ℕ) (points : List GlyphPoint) → All IsGlyphPoint points → All (All IsGlyphPoint) (cut_contours sizes points)
cut_within [] points h = All-nil (All IsGlyphPoint)
cut_within (n ∷ sizes) points h =
    All-cons (All IsGlyphPoint) (take n points) (cut_contours sizes (drop n points)) (All-take IsGlyphPoint n points h) (cut_within sizes (drop n points) (All-drop IsGlyphPoint n points h))

shifted_within : (whole : Drawn) → IfSome (shifted_contours whole) (All (All IsGlyphPoint))
shifted_within whole =
    if_then (placed_points (moved_right whole.shift) whole.points []) (λ points. Some (cut_contours whole.sizes points)) (All IsGlyphPoint) (All (All IsGlyphPoint))
    (points_within (moved_right whole.shift) whole.points [] (All-nil IsGlyphPoint)) (λ points h. cut_within whole.sizes points h)

or_none : (contours : Option (List (List GlyphPoint))) → IfSome contours (All (All IsGlyphPoint)) → All (All IsGlyphPoint) (contours_or_none contours)
or_none None h = All-nil (All IsGlyphPoint)
or_none (Some contours) h = h

whole_within : (whole : Option Drawn) → IfSome (option_and_then shifted_contours whole) (All (All IsGlyphPoint))
whole_within None = tt
whole_within (Some whole) = shifted_within whole

pub contours_within : (font : SfntFont) (g : ℕ) → All (All IsGlyphPoint) (contours_of font g)
contours_within font g =
    let whole = glyph_drawn font (max_depth + 1) g (record { points = 0; parts = 0 }) in
    or_none (option_and_then shifted_contours whole) (whole_within whole)
