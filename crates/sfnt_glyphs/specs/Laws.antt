-- Public: what holds of every glyph.
use Rattle.std.specs.Prelude.{◌≡◌, ℕ, [], true, All}
use Rattle.outline_points.specs.Contours.{IsGlyphPoint}
use Rattle.sfnt_font.specs.declared.font.SfntFont.{SfntFont}
use Rattle.sfnt_glyphs.specs.Glyphs.{contours_of, is_blank_glyph}

-- Each glyph of each font has contours, of points that lie within 65,535 of 0, whatever its bytes are; one without bytes
-- has none.
abbrev pub AreGlyphsTotal : Type 0
AreGlyphsTotal = (font : SfntFont) (g : ℕ) → All (All IsGlyphPoint) (contours_of font g) × (is_blank_glyph font g ≡ true → contours_of font g ≡ [])
