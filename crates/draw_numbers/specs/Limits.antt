-- Public: the limits of the numbers of draws.
use Rattle.std.specs.Prelude.{ℕ, ◌*◌}
use Rattle.ass_num.specs.Limits.{max_held, one_16}

-- 1 in numbers of a script, which are in thousandths
abbrev pub one_milli : ℕ
one_milli = 1000

-- the length of a sample: so many samples are a pixel in each direction, and a pixel is 64 units long
abbrev pub sample : ℕ
sample = 4

-- the farthest from 0 that a pen lies, in samples
abbrev pub max_pen : ℕ
max_pen = 262144

-- the farthest that a shadow lies from what throws it, in samples
abbrev pub max_shadow_offset : ℕ
max_shadow_offset = max_held * one_16

-- the farthest from the frame that a mask may begin which can still reach it, in pixels
abbrev pub max_reach : ℕ
max_reach = 8192

-- the farthest from 0 that a bound of a clip or the edge of a sweep lies, in pixels
abbrev pub max_bound : ℕ
max_bound = 262144
