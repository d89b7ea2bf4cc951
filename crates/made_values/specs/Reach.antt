-- Inner: how far the mask of a region reaches before it is softened and blurred.
use Rattle.std.specs.Prelude.{ℕ, ◌+◌, ◌*◌, ◌/◌}
use Rattle.ass_num.specs.Limits.{max_sample}
use Rattle.mask_keys.specs.Keys.{samples_across}

-- how far from 0 its corner lies at most, in pixels
abbrev pub max_covered_corner : ℕ
max_covered_corner = max_sample / samples_across + 1

-- the most pixels that it has along a side
abbrev pub max_covered_side : ℕ
max_covered_side = 2 * max_covered_corner + 1
