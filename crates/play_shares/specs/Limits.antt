-- Public: the limits of a play.
use Rattle.std.specs.Prelude.{ℕ, ◌+◌, ◌*◌}
use Rattle.ass_script.specs.Limits.{max_lines}
use Rattle.run_words.specs.Limits.{max_batch, max_workers}

-- the most images, over all times
abbrev pub max_frames : ℕ
max_frames = 1000000

-- the most places among the lines of a feeder that its batches reach, in as many rounds as there may be lines
abbrev pub max_places : ℕ
max_places = (max_lines + 1) * max_batch

-- the most pixels of the images that a round has for each renderer, where it has more than one: 48 MiB of bytes
abbrev pub max_round_pixels : ℕ
max_round_pixels = 16777216

-- the most pixels of the images that one of several painters makes in a round, where it makes more than one: 6 MiB of bytes
abbrev pub max_share_pixels : ℕ
max_share_pixels = 2097152

-- the most images that a round has for each renderer
abbrev pub max_round_images : ℕ
max_round_images = 8

-- the most painters of a round
abbrev pub max_painters : ℕ
max_painters = max_workers * max_round_images
