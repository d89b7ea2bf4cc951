-- Public: sets of fonts, and the rings of a key's outline.
use Rattle.std.specs.Prelude.{ℕ, ◌≤◌, Bool, List, [], ◌∷◌, length, map, All, Option, Some, None, slice_get}
use Rattle.ass_num.specs.declared.geometry.Matrix.{Matrix}
use Rattle.ass_num.specs.declared.geometry.Point.{Point}
use Rattle.bdf_font.specs.Fonts.{FontValue}
use Rattle.bdf_font.specs.GlyphRings.{rings_of_glyph}
use Rattle.bdf_font.specs.Limits.{max_fonts}
use Rattle.bdf_font.specs.Ranges.{IsFont}
use Rattle.bdf_font.specs.declared.glyphs.FontGlyph.{FontGlyph}
use Rattle.mask_keys.specs.declared.outline_key.OutlineKey.{OutlineKey}
use Rattle.mask_keys.specs.declared.outline_key.OutlineKey.TheVariants.{Glyph, Drawing, Box}
use Rattle.outline_points.specs.Boxes.{box_ring}
use Rattle.outline_points.specs.Drawings.{path_rings}

-- Fonts that keys may name.
pub record IsFontSet (fonts : List FontValue) : Type 0 where
  pub few : length fonts ≤ max_fonts
  pub whole : All IsFont fonts

-- the number of glyphs of each font
abbrev pub glyph_counts : List FontValue → List ℕ
glyph_counts fonts = map (λ font. length font.glyphs) fonts

-- the rings of a glyph of a font, if there is one
abbrev pub found_glyph_rings : Matrix → Bool → Bool → Bool → FontValue → Option FontGlyph → List (List Point)
found_glyph_rings m bold underline strikeout font None = []
found_glyph_rings m bold underline strikeout font (Some glyph) = rings_of_glyph m bold underline strikeout font glyph

-- the rings of a font's glyph, if there is such a font
abbrev pub found_font_rings : Matrix → Bool → Bool → Bool → ℕ → Option FontValue → List (List Point)
found_font_rings m bold underline strikeout glyph None = []
found_font_rings m bold underline strikeout glyph (Some font) =
    found_glyph_rings m bold underline strikeout font (slice_get font.glyphs glyph)

-- The rings of a key's outline; none where the fonts lack the glyph.
abbrev pub rings_of : List FontValue → OutlineKey → List (List Point)
rings_of fonts (Glyph font glyph m bold underline strikeout) = found_font_rings m bold underline strikeout glyph (slice_get fonts font)
rings_of fonts (Drawing path m shift) = path_rings m shift path.segs
rings_of fonts (Box w h turn) = box_ring w h turn ∷ []
