-- Public: the lines that feeders offer (docs/PROGRAM.md).
use Rattle.std.specs.Prelude.{ℕ, ◌-◌, ◌*◌, ◌%◌, ◌==◌, nat_lt, Bool, false, if◌then◌else◌, List, [], ◌++◌, length, take, drop, filter, slice_index_or}
use Rattle.std.specs.List.{range_with_len}
use Rattle.run_words.specs.declared.job.PlayJob.{PlayJob}

-- the lines of a feeder, of so many: those whose number leaves the feeder's where it is divided by the number of feeders
abbrev pub feeder_lines : ℕ → ℕ → ℕ → List ℕ
feeder_lines count feeders feeder = filter (λ i. i % feeders == feeder) (range_with_len 0 count)

-- the batch of its lines for a round
abbrev pub batch_lines : PlayJob → ℕ → ℕ → ℕ → List ℕ
batch_lines play count round feeder = take play.batch (drop (round * play.batch) (feeder_lines count play.feeders feeder))

-- those of lines that give an event
abbrev pub good_lines : List Bool → List ℕ → List ℕ
good_lines good lines = filter (λ i. slice_index_or good i false) lines

-- the last so many of a list, or all where there are fewer
abbrev pub last_items : ℕ → List ℕ → List ℕ
last_items n xs = drop (length xs - n) xs

-- the feeder has a line for the round
abbrev pub has_batch : PlayJob → ℕ → ℕ → ℕ → Bool
has_batch play count round feeder = nat_lt (round * play.batch) (length (feeder_lines count play.feeders feeder))

-- the lines that a feeder offers once more before a batch but its first: the last ones of the batch before that give an event
abbrev pub again_lines : PlayJob → List Bool → ℕ → ℕ → List ℕ
again_lines play good round feeder =
    if round == 0 then []
    else (if has_batch play (length good) round feeder then last_items play.again (good_lines good (batch_lines play (length good) (round - 1) feeder)) else [])

-- what a feeder offers in a round
abbrev pub offered : PlayJob → List Bool → ℕ → ℕ → List ℕ
offered play good round feeder = again_lines play good round feeder ++ good_lines good (batch_lines play (length good) round feeder)
