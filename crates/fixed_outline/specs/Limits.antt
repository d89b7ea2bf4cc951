-- Inner: how far from the pen a font's glyph reaches, and how many bytes its bitmap has.
use Rattle.std.specs.Prelude.{ℕ, ◌+◌, ◌*◌, ◌/◌}
use Rattle.bdf_font.specs.Limits.{max_offset, max_bitmap_side}

-- the farthest from the pen that the upper left corner of a glyph's pixel or of a bar lies, or an advance goes, in pixels
abbrev pub max_corner : ℕ
max_corner = max_offset + max_bitmap_side

-- the most bytes of a bitmap
abbrev pub max_bitmap_bytes : ℕ
max_bitmap_bytes = max_bitmap_side * ((max_bitmap_side + 7) / 8)
