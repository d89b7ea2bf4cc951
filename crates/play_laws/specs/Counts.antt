-- Public: how many events rounds feed and repeat, by the numbers of lines.
use Rattle.std.specs.Prelude.{◌≡◌, ℕ, ◌+◌, ◌-◌, ◌/◌, min, nat_lt, if◌then◌else◌, List, length, filter}
use Rattle.std.specs.List.{range_with_len}
use Rattle.play_model.specs.Interleavings.{sum_below}
use Rattle.play_model.specs.Plays.{IsPlayable, PlayView, all_feeding, good_before, good_flags, repeated_count}
use Rattle.play_shares.specs.Batches.{good_lines, has_batch}
use Rattle.play_shares.specs.Offers.{good_of_batch}

-- the lines of the batches before a round
abbrev pub lines_before : PlayView → ℕ → List ℕ
lines_before play round = filter (λ i. nat_lt (i / play.job.feeders / play.job.batch) round) (range_with_len 0 (length play.script.lines))

-- The rounds before one feed as many events as these lines give.
abbrev pub FedLinesAreCounted : Type 0
FedLinesAreCounted = (play : PlayView) (round : ℕ) → IsPlayable play → good_before play round ≡ length (good_lines (good_flags play.script) (lines_before play round))

-- how many events of a round's batch a feeder offers once more in the next round, if it has a batch for that
abbrev pub again_count : PlayView → ℕ → ℕ → ℕ
again_count play round feeder =
    if has_batch play.job (length play.script.lines) (round + 1) feeder
    then min play.job.again (length (good_of_batch play.job (good_flags play.script) feeder round))
    else 0

-- So many events are repeated in a time: those of all rounds but the last, and of all feeders.
abbrev pub RepeatsAreCounted : Type 0
RepeatsAreCounted =
    (play : PlayView) → IsPlayable play → repeated_count play ≡ sum_below (all_feeding play - 1) (λ round. sum_below play.job.feeders (again_count play round))
