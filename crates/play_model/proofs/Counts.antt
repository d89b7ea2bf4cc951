-- The feeders have as many events as the script.
use Rattle.std.proofs.Common.{◌≡◌, ℕ, zero, suc, ◌+◌, ◌%◌, ◌<◌, Bool, true, false, eqb, cond, List, [], ◌∷◌, ◌++◌, length, map, refl, sym, ap, subst, ◌∙◌, arith, append-nil, length-append}
use Rattle.std.specs.List.{range_with_len}
use Rattle.std.proofs.lemmas.Grind.{flat_map-append}
use Rattle.std.proofs.lemmas.List.{length-map}
use Rattle.std.proofs.lemmas.List.Folds.{flat_map-map}
use Rattle.std.proofs.lemmas.Nat.{mod_below}
use Rattle.ass_events.specs.Events.{event_of_line}
use Rattle.ass_events.specs.Histories.{Entry, Chunk}
use Rattle.ass_events.specs.declared.event.Event.{Event}
use Rattle.ass_num.proofs.ListLemmas.{flat_more}
use Rattle.ass_script.specs.Scripts.{ScriptValue}
use Rattle.play_shares.specs.Batches.{feeder_lines}
use Rattle.play_shares.proofs.FeederLines.{lines_more}
use Rattle.ass_events.specs.ScriptEvents.{event_given, line_events}
use Rattle.play_model.specs.Interleavings.{sum_below}
use Rattle.play_model.specs.Plays.{IsTimeOf, PlayView, events_at, feeder_events, good_count}
use Rattle.play_model.proofs.Labels.{length_interleaving, sum_below_add, sum_below_same, sum_below_zero}

module _ (script : ScriptValue) where
  abbrev given_at : ℕ → List Event
  given_at i = event_given (event_of_line script i)

  events_more : (lines : List ℕ) (n : ℕ) → length (events_at script (lines ++ n ∷ [])) ≡ length (events_at script lines) + length (given_at n)
  events_more lines n =
      ap length (flat_map-append given_at lines (n ∷ [])) ∙ length-append (events_at script lines) (events_at script (n ∷ []))
      ∙ ap (λ k. length (events_at script lines) + k) (ap length (append-nil (given_at n)))

  events_some : (b : Bool) (lines : List ℕ) (n : ℕ) → length (events_at script (lines ++ cond b (n ∷ []) [])) ≡ length (events_at script lines) + cond b (length (given_at n)) 0
  events_some true lines n = events_more lines n
  events_some false lines n = let same : length (events_at script (lines ++ [])) ≡ length (events_at script lines) = ap (λ z. length (events_at script z)) (append-nil lines) in omega arith

  -- a line more is one of just one feeder
  one_feeder : (n F : ℕ) → 0 < F
      → sum_below F (λ f. length (events_at script (feeder_lines (n + 1) F f))) ≡ sum_below F (λ f. length (events_at script (feeder_lines n F f))) + length (given_at n)
  one_feeder n F some =
      sum_below_add F (n % F) (length (given_at n)) (λ f. length (events_at script (feeder_lines n F f))) (λ f. length (events_at script (feeder_lines (n + 1) F f))) (mod_below n F some)
      (λ f. ap (λ z. length (events_at script z)) (lines_more n F f) ∙ events_some (eqb (n % F) f) (feeder_lines n F f) n)

  all_feeders : (n F : ℕ) → 0 < F → sum_below F (λ f. length (events_at script (feeder_lines n F f))) ≡ length (events_at script (range_with_len 0 n))
  all_feeders zero F some = sum_below_zero F
  all_feeders (suc n) F some =
      let e : n + 1 ≡ suc n = omega arith in
      let before : List Event = events_at script (range_with_len 0 n) in
      let more : before ++ given_at n ≡ events_at script (range_with_len 0 (n + 1)) = flat_more given_at [] before (before ++ given_at n) n refl refl in
      let step : sum_below F (λ f. length (events_at script (feeder_lines (n + 1) F f))) ≡ length (events_at script (range_with_len 0 (n + 1))) =
      one_feeder n F some ∙ ap (λ k. k + length (given_at n)) (all_feeders n F some) ∙ sym (length-append before (given_at n)) ∙ ap length more in
      subst (λ (m : ℕ). sum_below F (λ f. length (events_at script (feeder_lines m F f))) ≡ length (events_at script (range_with_len 0 m))) e step

module _ (play : PlayView) where
  pub all_lines : events_at play.script (range_with_len 0 (length play.script.lines)) ≡ line_events play.script
  all_lines = sym (flat_map-map event_given (event_of_line play.script) (range_with_len 0 (length play.script.lines)))

  pub good_is : 0 < play.job.feeders → good_count play ≡ length (line_events play.script)
  good_is some = all_feeders play.script (length play.script.lines) play.job.feeders some ∙ ap length all_lines

  pub time_long : (time : List Entry) → IsTimeOf play time → length time ≡ good_count play
  time_long time is =
      length_interleaving play.job.feeders (λ feeder. map Chunk (feeder_events play feeder)) time is
      ∙ sum_below_same play.job.feeders (λ feeder. length (map Chunk (feeder_events play feeder))) (λ feeder. length (feeder_events play feeder))
      (λ f lt. length-map (feeder_events play f) Chunk)
