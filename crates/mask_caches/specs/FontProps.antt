-- Inner: that a font is within its ranges has one proof at most, so it may be a ghost field.
use Rattle.std.proofs.Props.{props}
use Rattle.bdf_font.specs.declared.glyphs.GlyphShape.{GlyphShape}
use Rattle.bdf_font.specs.declared.glyphs.GlyphShape.TheVariants as shape
use Rattle.bdf_font.specs.Ranges.{IsShape}
use Rattle.outline_points.specs.CubicContours.{IsGlyphStroke}
use Rattle.outline_points.specs.declared.stroke.Stroke.{Stroke}
use Rattle.outline_points.specs.declared.stroke.Stroke.TheVariants.{Line, Curve}

IsGlyphStroke-prop : (s : Stroke) → IsProp (IsGlyphStroke s)
IsGlyphStroke-prop (Line p) = Prim.hlevel props
IsGlyphStroke-prop (Curve b c d) = Prim.hlevel props

pub IsShape-prop : (s : GlyphShape) → IsProp (IsShape s)
IsShape-prop (shape.Pixels pixels) = Prim.hlevel props
IsShape-prop (shape.Contours contours) = Prim.hlevel props
IsShape-prop (shape.Strokes contours) = Prim.hlevel (props, IsGlyphStroke-prop)

pub ruleset font_props = (props, IsShape-prop)
