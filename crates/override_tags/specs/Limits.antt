-- Public: the limits of what tags say.
use Rattle.std.specs.Prelude.{ℕ}

-- the farthest from 0 that a time or an alpha in a tag may be, in milliseconds
abbrev pub max_tag_time : ℕ
max_tag_time = 1000000

-- the longest syllable, in milliseconds
abbrev pub max_syllable : ℕ
max_syllable = 10000000

-- the fastest transform, in quarters
abbrev pub max_quarters : ℕ
max_quarters = 32

-- the highest scale or level of a drawing
abbrev pub max_tag_scale : ℕ
max_tag_scale = 30
