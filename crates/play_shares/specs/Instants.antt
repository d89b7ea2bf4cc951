-- Public: the instants of a play (docs/PROGRAM.md).
use Rattle.std.specs.Prelude.{ℕ, ◌+◌, ◌*◌, ℤ, pos, List, map, take, drop}
use Rattle.std.specs.List.{range_with_len}
use Rattle.frame_rate.specs.Instants.{rated_instant}
use Rattle.run_words.specs.declared.job.PlayJob.{PlayJob}

-- how many instants there are
abbrev pub instant_count : PlayJob → ℕ
instant_count play = play.instants.count

-- the instant at place i
abbrev pub play_instant : PlayJob → ℕ → ℤ
play_instant play i = pos (rated_instant play.instants i)

abbrev pub instants : PlayJob → List ℤ
instants play = map (play_instant play) (range_with_len 0 (instant_count play))

-- how many images there are, over all times
abbrev pub frame_count : PlayJob → ℕ
frame_count play = play.times * instant_count play

-- the instants that are warmed while the images of a round are made: those behind the round's, which has one for each renderer then
abbrev pub ahead_instants : PlayJob → ℕ → List ℤ
ahead_instants play round = take play.ahead (drop ((round + 1) * play.renderers) (instants play))
