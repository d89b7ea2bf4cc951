-- Public: the font of a selftest (docs/PROGRAM.md).
use Rattle.std.specs.Prelude.{ℕ, ◌+◌, ◌*◌, ◌%◌, List, [], ◌∷◌, codes, map, None, pos}
use Rattle.std.specs.List.{range_with_len}
use Rattle.bdf_font.specs.Fonts.{FontValue, bitmap_font}
use Rattle.bdf_font.specs.Pixels.{bitmap_glyph}
use Rattle.bdf_font.specs.declared.glyphs.FontGlyph.{FontGlyph}
use Rattle.bdf_font.specs.declared.glyphs.Pixels.{Pixels}

-- a row of a letter: five pixels
abbrev pub row_byte : ℕ → ℕ → ℕ
row_byte n row = 8 * (37 * (n + 1) * (row + 1) % 32)

abbrev pub letter_rows : ℕ → List ℕ
letter_rows n = map (row_byte n) (range_with_len 0 7)

-- a bitmap whose lower left corner lies at the pen
abbrev pub pixels : ℕ → ℕ → List ℕ → Pixels
pixels w h bits = record { w = w; h = h; x = pos 0; y = pos 0; bits = bits }

abbrev pub blank : FontGlyph
blank = bitmap_glyph (pos 32) (pos 6) (pixels 0 0 [])

-- a letter, from 0 for `a`
abbrev pub letter : ℕ → FontGlyph
letter n = bitmap_glyph (pos (97 + n)) (pos 6) (pixels 5 7 (letter_rows n))

-- the letters from `a` to `f`
abbrev pub letters : List FontGlyph
letters = map letter (range_with_len 0 6)

-- the font: a space, and the letters from `a` to `f`
abbrev pub grid_font : FontValue
grid_font = bitmap_font (codes "grid") (pos 7) (pos 1) None (blank ∷ letters)
