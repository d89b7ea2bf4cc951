-- The lines that a feeder offers are lines of the script, and each of them gives an event.
use Rattle.std.proofs.Common.{◌≡◌, ℕ, ◌+◌, ◌-◌, ◌*◌, ◌%◌, ◌<◌, ◌≤◌, lt_of_not-le, Bool, true, false, cond, eqb, ℤ, pos, List, [], ◌++◌, length, get_or, drop, refl, sym, ap, subst, ◌∙◌, arith, Some, None}
use mathlib.Core.Logic.{dite}
use native.Mathlib.Decide.{dec_le}
use Rattle.std.specs.List.{All, range_with_len, slice_get}
use Rattle.std.proofs.lemmas.Int.{ints}
use Rattle.std.proofs.lemmas.List.Elements.{All-nil, All-append, All-drop, All-filter, All-map, All-take, All-weaker}
use Rattle.std.proofs.lemmas.List.FromFn.{get_or-map-range_with_len, get_or-range_with_len, length-map-range_with_len, length-range_with_len}
use Rattle.std.proofs.lemmas.Option.{get_or_from_slice_get, slice_get-get_or, slice_get_within}
use Rattle.ass_num.specs.Limits.{IsWithin, max_instant}
use Rattle.run_words.specs.Jobs.{IsPlay}
use Rattle.run_words.specs.declared.job.PlayJob.{PlayJob}
use Rattle.play_shares.specs.Batches.{again_lines, batch_lines, feeder_lines, good_lines, has_batch, last_items, offered}
use Rattle.play_shares.specs.Instants.{ahead_instants, instant_count, instants, play_instant}
use Rattle.frame_rate.specs.Instants.{rated_instant}
use Rattle.frame_rate.proofs.InstantLemmas as rated_lemma
use Rattle.play_model.specs.Plays.{PlayView, events_again, events_at, events_in, good_flags}
use Rattle.play_model.proofs.Shares.{events_parts, flags_long, good_events}

-- ---- lines

pub below_count : (n : ℕ) → All (λ i. i < n) (range_with_len 0 n)
below_count n = λ k d lt.
    let inside : k < n = subst (λ (m : ℕ). k < m) (length-range_with_len 0 n) lt in
    subst (λ (m : ℕ). m < n) (sym (get_or-range_with_len 0 n k d inside)) (omega (arith, inside))

All_cond : {X : Type 0} (P : X → Type 0) (b : Bool) (xs ys : List X) → All P xs → All P ys → All P (cond b xs ys)
All_cond P true xs ys h k = h
All_cond P false xs ys h k = k

module _ (job : PlayJob) (good : List Bool) (round feeder : ℕ) where
  batch_below : (r : ℕ) → All (λ i. i < length good) (batch_lines job (length good) r feeder)
  batch_below r = All-take (λ i. i < length good) job.batch (drop (r * job.batch) (feeder_lines (length good) job.feeders feeder))
      (All-drop (λ i. i < length good) (r * job.batch) (feeder_lines (length good) job.feeders feeder)
      (All-filter (λ i. eqb (i % job.feeders) feeder) (λ i. i < length good) (range_with_len 0 (length good)) (below_count (length good))))

  good_below : (r : ℕ) → All (λ i. i < length good) (good_lines good (batch_lines job (length good) r feeder))
  good_below r = All-filter (λ i. get_or good i false) (λ i. i < length good) (batch_lines job (length good) r feeder) (batch_below r)

  again_below : All (λ i. i < length good) (again_lines job good round feeder)
  again_below =
      let before = good_lines good (batch_lines job (length good) (round - 1) feeder) in
      All_cond (λ i. i < length good) (eqb round 0) [] (cond (has_batch job (length good) round feeder) (last_items job.again before) []) (All-nil (λ i. i < length good))
      (All_cond (λ i. i < length good) (has_batch job (length good) round feeder) (last_items job.again before) []
      (All-drop (λ i. i < length good) (length before - job.again) before (good_below (round - 1))) (All-nil (λ i. i < length good)))

  pub offered_below : All (λ i. i < length good) (offered job good round feeder)
  offered_below = All-append (λ i. i < length good) (again_lines job good round feeder) (good_lines good (batch_lines job (length good) round feeder)) again_below (good_below round)

-- what a feeder offers in a round: what it offers once more, and its batch
pub events_offered : (play : PlayView) (good : List Bool) (round feeder : ℕ) → good ≡ good_flags play.script
    → events_at play.script (offered play.job good round feeder) ≡ events_again play round feeder ++ events_in play round feeder
events_offered play good round feeder is =
    let flags = good_flags play.script in
    let batch = batch_lines play.job (length play.script.lines) round feeder in
    let below : All (λ i. i < length play.script.lines) batch =
    subst (λ (n : ℕ). All (λ i. i < n) (batch_lines play.job n round feeder)) (flags_long play.script) (batch_below play.job flags round feeder round) in
    ap (λ g. events_at play.script (offered play.job g round feeder)) is
    ∙ events_parts play.script (again_lines play.job flags round feeder) (good_lines flags (batch_lines play.job (length flags) round feeder))
    ∙ ap (λ es. events_again play round feeder ++ es)
    (ap (λ n. events_at play.script (good_lines flags (batch_lines play.job n round feeder))) (flags_long play.script) ∙ good_events play.script batch below)

-- ---- instants

moment_within : (n : ℕ) → n ≤ max_instant → IsWithin max_instant (pos n)
moment_within n low = (omega (arith, ints), omega (arith, ints, low))

module _ (job : PlayJob) (is : IsPlay job) where
  pub instant_within : (place : ℕ) → place < instant_count job → IsWithin max_instant (play_instant job place)
  instant_within place lt =
      moment_within (rated_instant job.instants place) (rated_lemma.instant_within job.instants place is.instants lt)

  all_within : All (IsWithin max_instant) (instants job)
  all_within = All-map (IsWithin max_instant) (play_instant job) (range_with_len 0 (instant_count job))
      (All-weaker (λ i. i < instant_count job) (λ i. IsWithin max_instant (play_instant job i)) instant_within (range_with_len 0 (instant_count job)) (below_count (instant_count job)))

  pub ahead_within : (round : ℕ) → All (IsWithin max_instant) (ahead_instants job round)
  ahead_within round = All-take (IsWithin max_instant) job.ahead (drop ((round + 1) * job.renderers) (instants job)) (All-drop (IsWithin max_instant) ((round + 1) * job.renderers) (instants job) all_within)

  count_is : length (instants job) ≡ instant_count job
  count_is = length-map-range_with_len (play_instant job) 0 (instant_count job)

  -- what stands at a place, or that nothing does
  pub place_there : (place : ℕ) (t : ℤ) → Some t ≡ slice_get (instants job) place → (place < instant_count job) × (t ≡ play_instant job place)
  place_there place t there =
      let lt : place < instant_count job = subst (λ (n : ℕ). place < n) count_is (slice_get_within (instants job) place t (sym there)) in
      (lt, sym (get_or_from_slice_get (instants job) place t (pos 0) (sym there)) ∙ get_or-map-range_with_len (play_instant job) 0 (instant_count job) place place (pos 0) lt (omega arith))

  pub place_gone : (place : ℕ) → None ≡ slice_get (instants job) place → instant_count job ≤ place
  place_gone place gone = dite (dec_le (instant_count job) place) (λ le. le)
      (λ no. let lt : place < length (instants job) = subst (λ (n : ℕ). place < n) (sym count_is) (lt_of_not-le no) in
      absurd (let none : None ≡ Some (get_or (instants job) place (pos 0)) = gone ∙ slice_get-get_or (instants job) place (pos 0) lt in cc))
