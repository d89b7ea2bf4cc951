-- Public: the limits of fonts.
use Rattle.std.specs.Prelude.{ℕ, ◌+◌}

-- the most glyphs of a font of bitmaps
abbrev pub max_glyphs : ℕ
max_glyphs = 131072

-- the most glyphs of any font: one for each code of a map, one for each of its symbols, and that of missing characters
abbrev pub max_font_glyphs : ℕ
max_font_glyphs = 1114369

-- the most columns and the most rows of a bitmap
abbrev pub max_bitmap_side : ℕ
max_bitmap_side = 1024

-- the farthest from 0 that an advance and an offset of a bitmap may be
abbrev pub max_offset : ℕ
max_offset = 4096

-- the greatest ascent of a font of bitmaps: a box may begin at the farthest offset and be as high as a bitmap
abbrev pub max_ascent : ℕ
max_ascent = max_offset + max_bitmap_side

-- the greatest ascent and descent of any font, and the farthest from 0 that an advance, a bar's top or its size, and a bold step may be
abbrev pub max_measure : ℕ
max_measure = 65536

-- the most fonts of a set
abbrev pub max_fonts : ℕ
max_fonts = 64
