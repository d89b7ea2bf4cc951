-- Public: how many rounds a play has (docs/PROGRAM.md).
use Rattle.std.specs.Prelude.{ℕ, ◌*◌}
use Rattle.std.specs.Int.{div_ceil}
use Rattle.run_words.specs.declared.job.PlayJob.{PlayJob}
use Rattle.play_shares.specs.Instants.{instant_count}
use Rattle.play_shares.specs.Renderers.{images_each, painter_count}

-- until all of so many lines are offered
abbrev pub feeding_rounds : PlayJob → ℕ → ℕ
feeding_rounds play count = div_ceil count (play.feeders * play.batch)

-- until all images are made
abbrev pub image_rounds : PlayJob → ℕ
image_rounds play = div_ceil (instant_count play) (painter_count play * images_each play)
