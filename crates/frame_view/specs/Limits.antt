-- Public: the limits of what a frame is to a script.
use Rattle.std.specs.Prelude.{ℕ}

-- the most columns and the most rows of a video as it is stored
abbrev pub max_layout_side : ℕ
max_layout_side = 65536

-- the most parts of a pixel's width, or of its height
abbrev pub max_aspect_parts : ℕ
max_aspect_parts = 65536

-- the greatest number of a ratio
abbrev pub max_ratio_number : ℕ
max_ratio_number = 1073741824

-- 1 in the size of letters, which is in thousandths
abbrev pub whole_letter_scale : ℕ
whole_letter_scale = 1000

-- the largest size of letters
abbrev pub max_letter_scale : ℕ
max_letter_scale = 100000
