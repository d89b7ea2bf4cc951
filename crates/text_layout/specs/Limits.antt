-- Public: the limits of layout.
use Rattle.std.specs.Prelude.{ℕ, ◌+◌, ◌*◌, ◌^◌}
use Rattle.ass_num.specs.Limits.{max_held, max_text_bytes, one_16}
use Rattle.bdf_font.specs.Limits.{max_measure}
use Rattle.frame_view.specs.Limits.{max_ratio_number}
use Rattle.line_layout.specs.Breaks.{max_width}
use Rattle.override_tags.specs.Limits.{max_tag_scale}

-- the greatest height of a font, in its own units
abbrev pub max_em : ℕ
max_em = 2 * max_measure

-- the farthest from 0 that a product of two numbers of a script may be
abbrev pub max_dividend : ℕ
max_dividend = max_held * max_held

-- the most that it is multiplied by: the greatest number of a ratio in the unit of scales
abbrev pub max_factor : ℕ
max_factor = max_ratio_number * 64 * one_16

-- the most that it is divided by
abbrev pub max_divisor : ℕ
max_divisor = 2 ^ 100

-- the most units of a drawing's level that make a script pixel
abbrev pub max_level_parts : ℕ
max_level_parts = 2 ^ max_tag_scale

-- the farthest from 0 that a length of a script may be, in thousandths of its pixels
abbrev pub max_script_length : ℕ
max_script_length = 2 ^ 43

-- the farthest from 0 that such a length is in the frame, in 1/64 pixel
abbrev pub max_framed : ℕ
max_framed = 2 ^ 52

-- the widest that a line may be: each item of a text may be as wide as one can be
abbrev pub max_line : ℕ
max_line = max_text_bytes * max_width

-- the most lines of a text: one more than it has items, if all of them are breaks
abbrev pub max_block_lines : ℕ
max_block_lines = max_text_bytes + 1

-- the widest and the highest that a block may be: each line reaches above and below its baseline
abbrev pub max_block : ℕ
max_block = max_block_lines * (2 * max_width)

-- the farthest from 0 that the ground's corner may lie
abbrev pub max_ground_corner : ℕ
max_ground_corner = 262144

-- the farthest from it that an anchor may lie
abbrev pub max_ground_place : ℕ
max_ground_place = max_framed + max_ground_corner

-- the farthest from 0 that an anchor may lie
abbrev pub max_anchor : ℕ
max_anchor = 2 ^ 53

-- the farthest from 0 that an edge may lie
abbrev pub max_block_place : ℕ
max_block_place = 2 ^ 60
