-- Public: how far from 0 the numbers lie of an event that stands in the frame, in 1/64 pixel. These are conditions of calls.
use Rattle.std.specs.Prelude.{ℕ, ◌+◌, ◌-◌}
use Rattle.outline_points.specs.Limits.{max_length}
use Rattle.text_layout.specs.Limits.{max_anchor, max_block}

-- the farthest that an event may be moved down or up: what stands in its block is then still within the lengths that are turned
abbrev pub max_down : ℕ
max_down = max_length - (max_anchor + max_anchor)

-- the farthest from 0 that the corner of a block may lie which is moved so far
abbrev pub max_block_corner : ℕ
max_block_corner = (max_anchor + max_block) + max_down

-- the farthest from 0 that the pen of something within the block may lie
abbrev pub max_block_pen : ℕ
max_block_pen = max_block_corner + (max_block + max_block)
