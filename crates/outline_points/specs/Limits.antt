-- Public: how far from 0 the numbers lie that the formulas of points take. These are conditions of calls.
use Rattle.std.specs.Prelude.{ℕ, ◌^◌}

-- the largest scale
abbrev pub max_scale : ℕ
max_scale = 2 ^ 40

-- the farthest from the pen that a point of a bitmap's plane may lie, in pixels
abbrev pub max_pixel : ℕ
max_pixel = 131072

-- the farthest from 0 that a coordinate of a glyph's contour may be, in the font's units
abbrev pub max_unit : ℕ
max_unit = 65535

-- the farthest from 0 that a length in pixels or in a font's units is once it is scaled
abbrev pub max_scaled_length : ℕ
max_scaled_length = 2 ^ 41

-- the farthest from 0 that a scaled point of a contour lies
abbrev pub max_contour : ℕ
max_contour = 2 ^ 43

-- the farthest from 0 that a coordinate of a path is once it is scaled
abbrev pub max_scaled : ℕ
max_scaled = 2 ^ 54

-- the farthest from 0 that a coordinate of a drawing is, and that a shift or a box's side may be
abbrev pub max_length : ℕ
max_length = 2 ^ 60

-- the farthest from 0 that a coordinate may be that is turned
abbrev pub max_unturned : ℕ
max_unturned = 2 ^ 61
