-- What is live of a play has a picture at each instant.
use Rattle.std.proofs.Common.{◌≢◌, ℕ, ◌%◌, ◌<◌, ◌≤◌, eqb, List, [], ◌∷◌, ◌++◌, length, map, take, get_or, Contains, subst, arith}
use Rattle.std.specs.List.{All, range_with_len}
use Rattle.std.proofs.lemmas.List.Elements.{All-append, All-cons, All-head, All-map, All-nil, All-push, All-tail, All-take, Contains-get_or}
use Rattle.ass_num.specs.Limits.{max_text_bytes}
use Rattle.ass_events.specs.Histories.{Chunk, Entry, Flush, live, live_after}
use Rattle.ass_events.specs.ScriptEvents.{line_events}
use Rattle.ass_events.specs.declared.event.Event.{Event}
use Rattle.ass_events.proofs.GivenEvents.{all_events}
use Rattle.ass_events.proofs.TextLemmas.{line_fits}
use Rattle.frame_view.specs.FrameViews.{plain_frame}
use Rattle.near_events.proofs.Pairs.{Pairwise-weaker}
use Rattle.picture_exists.specs.Existence.{AreDrawable}
use Rattle.picture_exists.proofs.SomeEvents.{some_have_a_picture}
use Rattle.picture_laws.specs.Laws.{AreScriptEvents}
use Rattle.picture_laws.proofs.Rewritten.{scripts_give_events}
use Rattle.play_laws.specs.Fronts.{HavePictures}
use Rattle.play_model.specs.Plays.{IsPlayable, IsTimeOf, PlayView, feeder_events, history_of_times}
use Rattle.play_model.proofs.Counts.{all_lines}
use Rattle.play_model.proofs.Labels.{IsInterleaving_all}
use Rattle.play_model.proofs.SettledLaws.{line_there, of_line}
use Rattle.play_shares.specs.Batches.{feeder_lines}
use Rattle.play_shares.proofs.AllOffers.{unfiltered}

module _ (play : PlayView) where
  abbrev lines : List Event
  lines = line_events play.script

  -- an entry is an event of the script, or a flush
  abbrev IsOfScript : Entry → Type 0
  IsOfScript (Chunk e) = Contains lines e
  IsOfScript Flush = Unit {0}

  fed_of_script : (feeder : ℕ) (e : Event) → Contains (feeder_events play feeder) e → Contains lines e
  fed_of_script feeder e fed =
      let numbers = range_with_len 0 (length play.script.lines) in
      let line = of_line play.script (feeder_lines (length play.script.lines) play.job.feeders feeder) e fed in
      subst (λ (es : List Event). Contains es e) (all_lines play)
      (line_there play.script numbers e line.0 (unfiltered (λ (k : ℕ). eqb (k % play.job.feeders) feeder) numbers line.0 line.1) line.2)

  time_of_script : (time : List Entry) → IsTimeOf play time → All IsOfScript time
  time_of_script time is =
      IsInterleaving_all IsOfScript play.job.feeders (λ feeder. map Chunk (feeder_events play feeder)) time is
      (λ feeder less. All-map IsOfScript Chunk (feeder_events play feeder)
      (λ k d within. fed_of_script feeder (get_or (feeder_events play feeder) k d) (Contains-get_or (feeder_events play feeder) k d within)))

  times_of_script : (times : List (List Entry)) → All (IsTimeOf play) times → All IsOfScript (history_of_times times)
  times_of_script [] each = All-nil IsOfScript
  times_of_script (time ∷ []) each = time_of_script time (All-head (IsTimeOf play) time [] each)
  times_of_script (time ∷ (next ∷ times)) each =
      let rest = times_of_script (next ∷ times) (All-tail (IsTimeOf play) time (next ∷ times) each) in
      All-append IsOfScript time (Flush ∷ history_of_times (next ∷ times)) (time_of_script time (All-head (IsTimeOf play) time (next ∷ times) each))
      (All-cons IsOfScript Flush (history_of_times (next ∷ times)) tt rest)

  live_of_script : (events : List Event) (entries : List Entry) → All (Contains lines) events → All IsOfScript entries → All (Contains lines) (live_after events entries)
  live_of_script events [] old new = old
  live_of_script events (Chunk e ∷ entries) old new =
      live_of_script (events ++ e ∷ []) entries (All-push (Contains lines) events e old (All-head IsOfScript (Chunk e) entries new)) (All-tail IsOfScript (Chunk e) entries new)
  live_of_script events (Flush ∷ entries) old new = live_of_script [] entries (All-nil (Contains lines)) (All-tail IsOfScript Flush entries new)

  lines_are : IsPlayable play → AreDrawable lines
  lines_are playable =
      let are : AreScriptEvents lines = scripts_give_events play.script playable.script in
      record {
        each = are.each;
        texts =
            all_events play.script (length play.script.lines) (λ (e : Event). length e.text ≤ max_text_bytes)
            (λ i e within is. let fits = line_fits play.script i e is in let short = playable.short i [] within in omega (arith, fits, short));
        orders = Pairwise-weaker (λ (e f : Event). e.order < f.order) (λ (e f : Event). e.order ≢ f.order) (λ e f less same. omega (arith, less, same)) lines are.ascend;
      }

  pub have_pictures : IsPlayable play → HavePictures play
  have_pictures playable times n t each =
      let entries = take n (history_of_times times) in
      let among = live_of_script [] entries (All-nil (Contains lines)) (All-take IsOfScript n (history_of_times times) (times_of_script times each)) in
      some_have_a_picture lines (live entries) (lines_are playable) among play.script play.fonts t (plain_frame play.job.size)
