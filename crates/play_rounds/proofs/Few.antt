-- How many events a round can have repeated.
use Rattle.std.proofs.Common.{◌≡◌, ℕ, ◌-◌, ◌*◌, ◌≤◌, Bool, true, false, eqb, cond, List, [], ◌∷◌, length, map, drop, sum_by, Result, Ok, Err, refl, ap, arith, length-append, length-drop}
use Rattle.std.specs.List.{slice_index_or}
use Rattle.std.proofs.lemmas.List.{length-map, length-take}
use Rattle.std.proofs.lemmas.List.Sums.{sum_by-le}
use Rattle.std.proofs.lemmas.Nat.{mul-le}
use Rattle.ass_events.specs.Events.{event_of_line}
use Rattle.ass_events.specs.Histories.{Entry}
use Rattle.ass_events.specs.declared.event.ChunkRefusal.{ChunkRefusal}
use Rattle.ass_events.specs.declared.event.Event.{Event}
use Rattle.ass_script.specs.Scripts.{ScriptValue}
use Rattle.renderer.specs.Passes.{RenderView}
use Rattle.ass_events.specs.ScriptEvents.{event_given}
use Rattle.track_history.specs.Calls.{history_of}
use Rattle.track_history.specs.declared.answers.Feed.{Feed}
use Rattle.track_history.specs.declared.answers.Feed.TheVariants as feed
use Rattle.play_shares.specs.Batches.{again_lines, batch_lines, feeder_lines, good_lines, has_batch, last_items}
use Rattle.run_words.specs.Limits.{max_batch}
use Rattle.run_words.specs.declared.job.PlayJob.{PlayJob}
use Rattle.play_model.specs.Feeding.{AreFed, FeedAnswer, repeated_of, repeats}
use Rattle.play_model.specs.Plays.{PlayView, events_again, events_at, events_in, good_flags}
use Rattle.play_workers.specs.Parts.{IsOutcome, told_repeats}
use Rattle.play_workers.specs.Stages.{IsPlayStage, play_on}
use Rattle.play_workers.specs.declared.stage.PlayStage.{PlayStage}
use Rattle.play_workers.specs.declared.worker.Outcome.{Outcome}
use Rattle.play_workers.specs.declared.worker.Outcome.TheVariants.{Idle, Fed, Shown, OutOfMemory}
use Rattle.play_workers.specs.declared.worker.Role.{Role}
use Rattle.play_workers.specs.declared.worker.Role.TheVariants.{Feeder, Painter, Warmer}
use Rattle.play_workers.specs.declared.worker.Worker.{Worker}
use Rattle.play_rounds.specs.Rounds.{IsRound}
use Rattle.play_rounds.proofs.WholeRounds.{all_at}
use Rattle.play_rounds.specs.Limits.{max_crew}

given_few : (r : Result Event ChunkRefusal) → length (event_given r) ≤ 1
given_few (Ok event) = omega arith
given_few (Err refusal) = omega arith

events_few : (script : ScriptValue) (lines : List ℕ) → length (events_at script lines) ≤ length lines
events_few script [] = omega arith
events_few script (i ∷ lines) =
    let one = given_few (event_of_line script i) in let rest = events_few script lines in
    let all = length-append (event_given (event_of_line script i)) (events_at script lines) in omega (arith, one, rest, all)

last_few : (n : ℕ) (xs : List ℕ) → length (last_items n xs) ≤ n
last_few n xs = let all = length-drop (length xs - n) xs in omega (arith, all)

again_few : (job : PlayJob) (good : List Bool) (round f : ℕ) → length (again_lines job good round f) ≤ job.again
again_few job good round f =
    let before = good_lines good (batch_lines job (length good) (round - 1) f) in
    elim (eqb round 0) as (λ b. length (cond b [] (cond (has_batch job (length good) round f) (last_items job.again before) [])) ≤ job.again) [
      | true ↦ omega arith
      | false ↦ elim (has_batch job (length good) round f) as (λ b. length (cond b (last_items job.again before) []) ≤ job.again) [
        | true ↦ last_few job.again before
        | false ↦ omega arith
      ]
    ]

batch_few : (job : PlayJob) (count round f : ℕ) → length (batch_lines job count round f) ≤ job.batch
batch_few job count round f = let all = length-take job.batch (drop (round * job.batch) (feeder_lines count job.feeders f)) in omega (arith, all)

again_events_few : (play : PlayView) (round f : ℕ) → length (events_again play round f) ≤ play.job.again
again_events_few play round f =
    let good = good_flags play.script in
    let some = events_few play.script (again_lines play.job good round f) in let few = again_few play.job good round f in omega (arith, some, few)

batch_events_few : (play : PlayView) (round f : ℕ) → length (events_in play round f) ≤ play.job.batch
batch_events_few play round f =
    let count = length play.script.lines in
    let some = events_few play.script (batch_lines play.job count round f) in let few = batch_few play.job count round f in omega (arith, some, few)

repeats_few : (f : Feed) → repeats f ≤ 1
repeats_few (feed.Accepted place) = omega arith
repeats_few (feed.Repeated place) = omega arith
repeats_few (feed.Malformed field place) = omega arith
repeats_few (feed.Full most) = omega arith
repeats_few feed.OutOfMemory = omega arith

repeated_few : (answers : List FeedAnswer) → repeated_of answers ≤ length answers
repeated_few [] = omega arith
repeated_few (a ∷ answers) = let one = repeats_few a.1 in let rest = repeated_few answers in omega (arith, one, rest)

fed_few : (before : List Entry) (events : List Event) (after given : List Entry) (repeated : ℕ) → AreFed before events after given repeated → repeated ≤ length events
fed_few before events after given repeated fed =
    let most = repeated_few fed.answers in let all : length (map (λ (a : FeedAnswer). a.0) fed.answers) ≡ length events = ap length fed.events_are in
    let same = length-map fed.answers (λ (a : FeedAnswer). a.0) in let is = fed.repeated_are in omega (arith, most, all, same, is)

module _ (stage : PlayStage) (is_stage : IsPlayStage stage) (round : ℕ) (pass after : RenderView) (given : List Entry) where
  told_few : (role : Role) (outcome : Outcome) → IsOutcome stage round role pass after given outcome → told_repeats outcome ≤ 2 * max_batch
  told_few (Feeder f) Idle came = absurd came
  told_few (Feeder f) (Fed repeated) came =
      let two = came [] (history_of pass.track.seen) (history_of after.track.seen) refl refl refl in
      let first = fed_few (history_of pass.track.seen) (events_again (play_on stage) round f) (history_of after.track.seen) two.first_given two.first_repeated two.first in
      let second = fed_few (history_of pass.track.seen) (events_in (play_on stage) round f) (history_of after.track.seen) two.second_given two.second_repeated two.second in
      let again = again_events_few (play_on stage) round f in
      let batch = batch_events_few (play_on stage) round f in
      let a = is_stage.playable.job.again in let b = is_stage.playable.job.batch.1 in let is = two.repeated_are in
      omega (arith, first, second, again, batch, a, b, is)
  told_few (Feeder f) (Shown images) came = absurd came
  told_few (Feeder f) OutOfMemory came = omega arith
  told_few (Painter p) Idle came = absurd came
  told_few (Painter p) (Fed repeated) came = absurd came
  told_few (Painter p) (Shown images) came = omega arith
  told_few (Painter p) OutOfMemory came = omega arith
  told_few Warmer Idle came = omega arith
  told_few Warmer (Fed repeated) came = absurd came
  told_few Warmer (Shown images) came = absurd came
  told_few Warmer OutOfMemory came = omega arith

pub round_few : (stage : PlayStage) (round : ℕ) (first : RenderView) (workers : List Worker) (after : RenderView) → IsPlayStage stage → IsRound stage round first workers after → length workers ≤ max_crew
    → sum_by (λ (w : Worker). told_repeats w.outcome) workers ≤ 4294967295
round_few stage round first workers after is_stage one few =
    let all = sum_by-le (λ (w : Worker). told_repeats w.outcome) (2 * max_batch) workers (all_at (λ (w : Worker). told_repeats w.outcome ≤ 2 * max_batch) workers (λ i d lt.
    let done = one.done i d lt in told_few stage is_stage round (one.begun i) (one.passes i) _ (slice_index_or workers i d).role (slice_index_or workers i d).outcome done.came)) in
    let most : length workers * (2 * max_batch) ≤ max_crew * (2 * max_batch) = mul-le (length workers) (2 * max_batch) max_crew (2 * max_batch) few (omega arith) in
    omega (arith, all, most)
