-- Public: what the offers of all rounds come to (docs/PROGRAM.md).
use Rattle.std.specs.Prelude.{◌≡◌, ℕ, ◌+◌, ◌%◌, ◌≤◌, min, Bool, if◌then◌else◌, List, [], length, Contains}
use Rattle.std.specs.List.{flat_map, range_with_len}
use Rattle.run_words.specs.declared.job.PlayJob.{PlayJob}
use Rattle.play_shares.specs.Batches.{again_lines, batch_lines, feeder_lines, good_lines, has_batch, offered}
use Rattle.play_shares.specs.Rounds.{feeding_rounds}

-- what there is for each of the first rounds, one after another
abbrev pub in_rounds : ℕ → (ℕ → List ℕ) → List ℕ
in_rounds rounds lines_for = flat_map lines_for (range_with_len 0 rounds)

module _ (play : PlayJob) (good : List Bool) where
  -- the lines of a feeder that give an event
  abbrev pub good_of_feeder : ℕ → List ℕ
  good_of_feeder feeder = good_lines good (feeder_lines (length good) play.feeders feeder)

  -- those of its batch for a round
  abbrev pub good_of_batch : ℕ → ℕ → List ℕ
  good_of_batch feeder round = good_lines good (batch_lines play (length good) round feeder)

  -- In all rounds together a feeder offers each of its lines that give an event once, in their order, and some of them once more; then nothing.
  pub record AreAllOffered (feeder : ℕ) : Type 0 where
    pub once : in_rounds (feeding_rounds play (length good)) (good_of_batch feeder) ≡ good_of_feeder feeder
    pub count : length (in_rounds (feeding_rounds play (length good)) (λ round. offered play good round feeder))
        ≡ length (good_of_feeder feeder) + length (in_rounds (feeding_rounds play (length good)) (λ round. again_lines play good round feeder))
    pub again : (round : ℕ) → length (again_lines play good (round + 1) feeder)
        ≡ (if has_batch play (length good) (round + 1) feeder then min play.again (length (good_of_batch feeder round)) else 0)
    pub behind : (round : ℕ) → feeding_rounds play (length good) ≤ round → offered play good round feeder ≡ []

  -- Each line that gives an event is one of just one feeder.
  abbrev pub IsOfOneFeeder : ℕ → Type 0
  IsOfOneFeeder line = Contains (good_of_feeder (line % play.feeders)) line × ((feeder : ℕ) → Contains (good_of_feeder feeder) line → feeder ≡ line % play.feeders)
