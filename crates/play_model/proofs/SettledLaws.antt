-- What is live after a whole time are just the events of the script.
use Rattle.std.proofs.Common.{◌≡◌, ℕ, ◌%◌, ◌<◌, eqb, List, [], ◌∷◌, ◌++◌, length, map, Ok, Err, refl, sym, ap, subst, ◌∙◌, arith, append_assoc, append-nil, ⊎_elim}
use Rattle.std.specs.List.{All, Contains, range_with_len}
use Rattle.std.proofs.lemmas.List.Elements.{All-cons, All-contains, All-head, All-nil, All-tail, All-weaker, Contains-append_cases, Contains-append_left, Contains-append_right}
use Rattle.std.proofs.lemmas.Nat.{mod_below}
use Rattle.ass_events.specs.Events.{event_of_line}
use Rattle.ass_events.specs.Histories.{Entry, Chunk, Flush, live, live_after}
use Rattle.ass_events.specs.declared.event.Event.{Event}
use Rattle.ass_script.specs.Scripts.{ScriptValue}
use Rattle.picture_plan.specs.Pictures.{HaveSameEvents}
use Rattle.track_history.proofs.Histories.{live_after-append}
use Rattle.play_shares.specs.Batches.{feeder_lines}
use Rattle.play_shares.proofs.AllOffers.{of_feeder, unfiltered}
use Rattle.ass_events.specs.ScriptEvents.{event_given, line_events}
use Rattle.play_model.specs.Plays.{IsTimeOf, PlayView, events_at, feeder_events}
use Rattle.play_model.proofs.Counts.{all_lines}
use Rattle.play_model.proofs.FeedLaws.{IsChunk, all_chunks, unchunk}
use Rattle.play_model.proofs.JoinedPasses.{Contains_here, Contains_map}
use Rattle.play_model.proofs.Labels.{IsInterleaving_all, IsInterleaving_item, IsInterleaving_list}

-- ---- what is live behind a history of which nothing is

pub live_behind : (old fresh : List Entry) → live old ≡ [] → live (old ++ fresh) ≡ live fresh
live_behind old fresh dead = live_after-append [] old fresh ∙ ap (λ events. live_after events fresh) dead

no_flush : (e : Event) → Flush ≡ Chunk e → ⊥
no_flush e is = cc

-- of chunks alone all are live
live_of_chunks : (events : List Event) (xs : List Entry) → All IsChunk xs → (es : List Event) × (live_after events xs ≡ events ++ es) × (xs ≡ map Chunk es)
live_of_chunks events [] all = ([], sym (append-nil events), refl)
live_of_chunks events (Chunk e ∷ xs) all =
    let rest = live_of_chunks (events ++ e ∷ []) xs (All-tail IsChunk (Chunk e) xs all) in
    (e ∷ rest.0, rest.1 ∙ append_assoc events (e ∷ []) rest.0, ap (λ z. Chunk e ∷ z) rest.2)
live_of_chunks events (Flush ∷ xs) all = let h = All-head IsChunk Flush xs all in absurd (no_flush h.0 h.1)

-- ---- events of lines

module _ (script : ScriptValue) where
  -- the event is that of one of the lines
  abbrev pub IsOfLine : List ℕ → Event → Type 0
  IsOfLine lines e = (i : ℕ) × Contains lines i × (event_of_line script i ≡ Ok e)

  given_is : (r : _) (e : Event) → Contains (event_given r) e → r ≡ Ok e
  given_is (Ok event) e there = ap Ok (All-contains (λ z. event ≡ z) (event ∷ []) e (all_here event) there)
    where
      all_here : (event : Event) → All (λ z. event ≡ z) (event ∷ [])
      all_here event = All-cons (λ z. event ≡ z) event [] refl (All-nil (λ z. event ≡ z))
  given_is (Err refusal) e there = let lt = there.1 in absurd (omega arith)

  pub of_line : (lines : List ℕ) (e : Event) → Contains (events_at script lines) e → IsOfLine lines e
  of_line [] e there = let lt = there.1 in absurd (omega arith)
  of_line (i ∷ lines) e there = ⊎_elim
      (λ one. (i, Contains_here i lines, given_is (event_of_line script i) e one))
      (λ rest. let found = of_line lines e rest in (found.0, Contains-append_right (i ∷ []) lines found.0 found.1, found.2))
      (Contains-append_cases (event_given (event_of_line script i)) (events_at script lines) e there)

  given_there : (r : _) (e : Event) → r ≡ Ok e → Contains (event_given r) e
  given_there r e is = subst (λ z. Contains (event_given z) e) (sym is) (Contains_here e [])

  pub line_there : (lines : List ℕ) (e : Event) (i : ℕ) → Contains lines i → event_of_line script i ≡ Ok e → Contains (events_at script lines) e
  line_there lines e i there is =
      All-contains (λ k. event_of_line script k ≡ Ok e → Contains (events_at script lines) e) lines i (each lines) there is
    where
      each : (lines : List ℕ) → All (λ k. event_of_line script k ≡ Ok e → Contains (events_at script lines) e) lines
      each [] = All-nil (λ k. event_of_line script k ≡ Ok e → Contains (events_at script []) e)
      each (k ∷ ks) = All-cons (λ j. event_of_line script j ≡ Ok e → Contains (events_at script (k ∷ ks)) e) k ks
          (λ is. Contains-append_left (event_given (event_of_line script k)) (events_at script ks) e (given_there (event_of_line script k) e is))
          (All-weaker (λ j. event_of_line script j ≡ Ok e → Contains (events_at script ks) e) (λ j. event_of_line script j ≡ Ok e → Contains (events_at script (k ∷ ks)) e)
          (λ j had is. Contains-append_right (event_given (event_of_line script k)) (events_at script ks) e (had is)) ks (each ks))

-- ---- a whole time

module _ (play : PlayView) (old time : List Entry) (some : 0 < play.job.feeders) (dead : live old ≡ []) (is : IsTimeOf play time) where
  abbrev numbers : List ℕ
  numbers = range_with_len 0 (length play.script.lines)

  chunks : (es : List Event) × (live_after [] time ≡ es) × (time ≡ map Chunk es)
  chunks = live_of_chunks [] time (IsInterleaving_all IsChunk play.job.feeders (λ feeder. map Chunk (feeder_events play feeder)) time is (λ f lt. all_chunks (feeder_events play f)))

  lives : live (old ++ time) ≡ chunks.0
  lives = live_behind old time dead ∙ chunks.1

  of_script : (e : Event) → Contains chunks.0 e → Contains (line_events play.script) e
  of_script e there =
      let chunk : Contains time (Chunk e) = subst (λ (xs : List Entry). Contains xs (Chunk e)) (sym chunks.2) (Contains_map Chunk chunks.0 e there) in
      let fed = IsInterleaving_list play.job.feeders (λ feeder. map Chunk (feeder_events play feeder)) time (Chunk e) is chunk in
      let line = of_line play.script (feeder_lines (length play.script.lines) play.job.feeders fed.0) e (unchunk (feeder_events play fed.0) e fed.2) in
      subst (λ (es : List Event). Contains es e) (all_lines play)
      (line_there play.script numbers e line.0 (unfiltered (λ (k : ℕ). eqb (k % play.job.feeders) fed.0) numbers line.0 line.1) line.2)

  of_time : (e : Event) → Contains (line_events play.script) e → Contains chunks.0 e
  of_time e there =
      let line = of_line play.script numbers e (subst (λ (es : List Event). Contains es e) (sym (all_lines play)) there) in
      let feeder = line.0 % play.job.feeders in
      let fed = line_there play.script (feeder_lines (length play.script.lines) play.job.feeders feeder) e line.0 (of_feeder (length play.script.lines) play.job.feeders line.0 line.1) line.2 in
      let chunk = IsInterleaving_item play.job.feeders (λ f. map Chunk (feeder_events play f)) time feeder (Chunk e) is (mod_below line.0 play.job.feeders some) (Contains_map Chunk (feeder_events play feeder) e fed) in
      unchunk chunks.0 e (subst (λ (xs : List Entry). Contains xs (Chunk e)) chunks.2 chunk)

  -- what is live after a whole time are the events of the script, in whatever order
  pub whole_time : HaveSameEvents (live (old ++ time)) (line_events play.script)
  whole_time e = (
    (λ there. of_script e (subst (λ (es : List Event). Contains es e) lives there)),
    (λ there. subst (λ (es : List Event). Contains es e) (sym lives) (of_time e there)),
  )
