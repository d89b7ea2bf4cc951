-- Inner: the limits of a play's crews.
use Rattle.std.specs.Prelude.{ℕ, ◌+◌, ◌*◌}
use Rattle.play_shares.specs.Limits.{max_painters}
use Rattle.run_words.specs.Limits.{max_workers}
use Rattle.play_workers.specs.Limits.{max_rounds}

-- the most workers of a round: feeders, painters and one that warms ahead
abbrev pub max_crew : ℕ
max_crew = max_workers + max_painters + 1

-- the most numbers that are drawn for the passes of a shift
abbrev pub max_drawn : ℕ
max_drawn = max_rounds * max_crew
