-- Rounds, and whole times.
use Rattle.std.proofs.Common.{◌≡◌, ℕ, ◌+◌, ◌*◌, ◌/◌, ◌<◌, ◌≤◌, List, [], ◌++◌, length, map, take, drop, sym, ap, subst, ◌∙◌, arith, length-append}
use Rattle.std.proofs.lemmas.List.{length-map, take-append-drop, take_all}
use Rattle.ass_events.specs.Histories.{Entry, Chunk, live}
use Rattle.play_shares.specs.Batches.{again_lines, batch_lines, good_lines}
use Rattle.play_shares.specs.Rounds.{feeding_rounds}
use Rattle.play_shares.proofs.AllOffers.{lines_within, none_behind}
use Rattle.run_words.specs.declared.job.Mode.TheVariants.{Live}
use Rattle.ass_events.specs.ScriptEvents.{line_events}
use Rattle.picture_plan.specs.Pictures.{HaveSameEvents}
use Rattle.play_model.specs.Images.{IsCountAt, entries_before}
use Rattle.play_model.specs.Plays.{IsFedTo, IsPlayable, IsTimeOf, PlayView, all_feeding, events_again, events_at, events_before, events_in, feeder_events, good_before, good_count, good_flags, lines_of_feeder, repeated_before, repeated_count, repeated_in}
use Rattle.play_model.specs.Rounds.{IsFedRound}
use Rattle.play_model.proofs.Counts.{good_is, time_long}
use Rattle.play_model.proofs.FeedLaws.{AreApart, IsRoundFed, batch_accepted, history_after}
use Rattle.play_model.proofs.Labels.{IsInterleaving_nil, IsInterleaving_renamed, length_interleaving, sum_below_most, sum_below_rest, sum_below_same, sum_below_zero}
use Rattle.play_model.proofs.SettledLaws.{whole_time}
use Rattle.play_model.proofs.Shares.{again_many, are_apart, before_next, events_behind, events_parts, flags_long}

module _ (play : PlayView) where
  -- ---- one round

  pub nothing_fed : IsFedTo play 0 []
  nothing_fed = IsInterleaving_nil play.job.feeders (λ feeder. map Chunk (events_before play 0 feeder))
      (λ feeder lt. let none : 0 * play.job.batch ≡ 0 = omega arith in ap (λ (n : ℕ). map Chunk (events_at play.script (take n (lines_of_feeder play feeder)))) none)

  module _ (round : ℕ) (before fresh : List Entry) (given : ℕ → List Entry) (repeated : ℕ → ℕ) (playable : IsPlayable play) (fed : IsFedRound play round before fresh given repeated) where
    abbrev apart : AreApart play.job.feeders (events_before play round) (events_in play round) (events_behind play round) (events_again play round)
    apart = are_apart play playable round

    abbrev fed_round : IsRoundFed play.job.feeders (events_before play round) (events_in play round) (events_behind play round) (events_again play round) apart before fresh given repeated
    fed_round = record { there = fed.there; new = fed.new; fed = fed.fed }

    pub feeds_on : IsFedTo play (round + 1) (before ++ fresh)
    feeds_on = IsInterleaving_renamed play.job.feeders (λ feeder. map Chunk (events_before play round feeder ++ events_in play round feeder))
        (λ feeder. map Chunk (events_before play (round + 1) feeder)) (before ++ fresh)
        (λ feeder lt. ap (map Chunk) (sym (before_next play round feeder)))
        (history_after play.job.feeders (events_before play round) (events_in play round) (events_behind play round) (events_again play round) apart before fresh given repeated fed_round)

    pub repeats_again : (feeder : ℕ) → feeder < play.job.feeders → repeated feeder ≡ length (again_lines play.job (good_flags play.script) round feeder)
    repeats_again feeder lt =
        (batch_accepted play.job.feeders (events_before play round) (events_in play round) (events_behind play round) (events_again play round) apart before fresh given repeated fed_round feeder lt).1
        ∙ again_many play round feeder

  -- ---- how many entries rounds feed

  pub fed_long : (rounds : ℕ) (fresh : List Entry) → IsFedTo play rounds fresh → length fresh ≡ good_before play rounds
  fed_long rounds fresh is =
      length_interleaving play.job.feeders (λ feeder. map Chunk (events_before play rounds feeder)) fresh is
      ∙ sum_below_same play.job.feeders (λ feeder. length (map Chunk (events_before play rounds feeder))) (λ feeder. length (events_before play rounds feeder))
      (λ f lt. length-map (events_before play rounds f) Chunk)

  before_most : (rounds feeder : ℕ) → length (events_before play rounds feeder) ≤ length (feeder_events play feeder)
  before_most rounds feeder =
      let lines = lines_of_feeder play feeder in
      let n = rounds * play.job.batch in
      let parts : events_before play rounds feeder ++ events_at play.script (drop n lines) ≡ feeder_events play feeder =
      sym (events_parts play.script (take n lines) (drop n lines)) ∙ ap (events_at play.script) (take-append-drop n lines) in
      let long = length-append (events_before play rounds feeder) (events_at play.script (drop n lines)) in
      let all : length (events_before play rounds feeder ++ events_at play.script (drop n lines)) ≡ length (feeder_events play feeder) = ap length parts in
      omega (arith, long, all)

  pub good_most : (rounds : ℕ) → good_before play rounds ≤ good_count play
  good_most rounds = sum_below_most play.job.feeders (λ f. length (events_before play rounds f)) (λ f. length (feeder_events play f)) (λ f lt. before_most rounds f)

  module _ (playable : IsPlayable play) (rounds : ℕ) (late : all_feeding play ≤ rounds) where
    before_all : (feeder : ℕ) → feeder < play.job.feeders → events_before play rounds feeder ≡ feeder_events play feeder
    before_all feeder lt = ap (events_at play.script)
        (take_all (rounds * play.job.batch) (lines_of_feeder play feeder) (lines_within play.job (length play.script.lines) feeder playable.job lt rounds late))

    pub good_all : good_before play rounds ≡ good_count play
    good_all = sum_below_same play.job.feeders (λ f. length (events_before play rounds f)) (λ f. length (feeder_events play f)) (λ f lt. ap length (before_all f lt))

    pub feeds_all : (fresh : List Entry) → IsFedTo play rounds fresh → IsTimeOf play fresh
    feeds_all fresh is = IsInterleaving_renamed play.job.feeders (λ feeder. map Chunk (events_before play rounds feeder)) (λ feeder. map Chunk (feeder_events play feeder)) fresh
        (λ feeder lt. ap (map Chunk) (before_all feeder lt)) is

    none_again : (round : ℕ) → all_feeding play ≤ round → (feeder : ℕ) → feeder < play.job.feeders → length (again_lines play.job (good_flags play.script) round feeder) ≡ 0
    none_again round past feeder lt =
        let flags = good_flags play.script in
        let past' : feeding_rounds play.job (length flags) ≤ round = subst (λ (n : ℕ). feeding_rounds play.job n ≤ round) (sym (flags_long play.script)) past in
        let none : length (again_lines play.job flags round feeder ++ good_lines flags (batch_lines play.job (length flags) round feeder)) ≡ 0 =
        ap length (none_behind play.job flags feeder playable.job lt round past') in
        let long = length-append (again_lines play.job flags round feeder) (good_lines flags (batch_lines play.job (length flags) round feeder)) in
        omega (arith, none, long)

    pub repeats_all : repeated_before play rounds ≡ repeated_count play
    repeats_all = sum_below_rest (all_feeding play) rounds (repeated_in play) late
        (λ round past lt. sum_below_same play.job.feeders (λ feeder. length (again_lines play.job (good_flags play.script) round feeder)) (λ feeder. 0) (none_again round past)
        ∙ sum_below_zero play.job.feeders)

  -- ---- whole times

  module _ (playable : IsPlayable play) where
    some_feeder : 0 < play.job.feeders
    some_feeder = let least = playable.job.feeders.0 in omega (arith, least)

    pub all_events : (old time : List Entry) → live old ≡ [] → IsTimeOf play time
        → (length time ≡ length (line_events play.script)) × (length time ≡ good_count play) × HaveSameEvents (live (old ++ time)) (line_events play.script)
    all_events old time dead is = (time_long play time is ∙ good_is play some_feeder, time_long play time is, whole_time play old time some_feeder dead is)

    pub live_bounds : (q i n : ℕ) → IsCountAt play q i Live n
        → (n ≤ entries_before play q + good_count play) × (all_feeding play ≤ i / play.job.renderers → n ≡ entries_before play q + good_count play)
    live_bounds q i n count =
        let least = count.0 in
        let most = count.1 in
        let top = good_most (i / play.job.renderers + 1) in
        (omega (arith, most, top), (λ late. let all = good_all playable (i / play.job.renderers) late in omega (arith, least, most, top, all)))
