-- Public: the painters of a round, and the instants that each has in it (docs/PROGRAM.md).
use Rattle.std.specs.Prelude.{ℕ, ◌+◌, ◌-◌, ◌*◌, ◌/◌, ◌==◌, max, min, nat_lt, if◌then◌else◌}
use Rattle.std.specs.Int.{div_ceil}
use Rattle.ass_num.specs.declared.size.Size.{Size}
use Rattle.run_words.specs.declared.job.Mode.{Mode}
use Rattle.run_words.specs.declared.job.Mode.TheVariants.{Live, Settled}
use Rattle.run_words.specs.declared.job.PlayJob.{PlayJob}
use Rattle.play_shares.specs.Instants.{instant_count}
use Rattle.play_shares.specs.Limits.{max_round_images, max_round_pixels, max_share_pixels}

-- how many images of a size fit in so many pixels, but one at least, and no more than a round may have for a renderer
abbrev pub images_that_fit : ℕ → Size → ℕ
images_that_fit pixels size = max (min (pixels / (size.w * size.h)) max_round_images) 1

-- how many pixels the images of a share have at most: for one renderer alone as many as those of a round
abbrev pub share_pixels : PlayJob → ℕ
share_pixels play = if play.renderers == 1 then max_round_pixels else max_share_pixels

-- how many images a painter makes in each round but the last: live, and where masks are warmed ahead, one
abbrev pub each_in : Mode → PlayJob → ℕ
each_in Live play = 1
each_in Settled play = if nat_lt 0 play.ahead then 1 else images_that_fit (share_pixels play) play.size

abbrev pub images_each : PlayJob → ℕ
images_each play = each_in play.mode play

-- how many painters a round has for each renderer: live, and where masks are warmed ahead, one; else as many as make all images that a round may have for it
abbrev pub painters_in : Mode → PlayJob → ℕ
painters_in Live play = 1
painters_in Settled play = if nat_lt 0 play.ahead then 1 else images_that_fit max_round_pixels play.size / images_that_fit (share_pixels play) play.size

-- how many painters a round has
abbrev pub painter_count : PlayJob → ℕ
painter_count play = play.renderers * painters_in play.mode play

-- the place of the first instant of a round
abbrev pub first_place : PlayJob → ℕ → ℕ
first_place play round = round * (painter_count play * images_each play)

-- how many images a painter makes in a round: what is left for the last one is shared evenly
abbrev pub images_in : PlayJob → ℕ → ℕ
images_in play round = min (div_ceil (instant_count play - first_place play round) (painter_count play)) (images_each play)

-- The instants of a painter in a round stand behind those of the painters before it: the place of the first one, and that behind the last one.
abbrev pub share_begins : PlayJob → ℕ → ℕ → ℕ
share_begins play round painter = first_place play round + painter * images_in play round

abbrev pub share_ends : PlayJob → ℕ → ℕ → ℕ
share_ends play round painter = min (share_begins play round painter + images_in play round) (instant_count play)
