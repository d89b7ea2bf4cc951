-- Lines that are fed, one after another.
use Rattle.std.proofs.Common.{◌≡◌, ℕ, ◌+◌, ◌<◌, ◌≤◌, ℤ, pos, ◌≤ℤ◌, FitsSigned, w64, Bool, true, false, List, [], ◌∷◌, ◌++◌, length, get_or, take, drop, refl, sym, ap, subst, ◌∙◌, arith, Result, Ok, Err}
use Rattle.std.specs.Result.{IfOk, OnErr}
use Rattle.std.specs.Prelude.{◌&&◌, int_le}
use Rattle.std.specs.Arc.{arc_value}
use Rattle.std.proofs.lemmas.List.{take-append-drop, take_all, take_more}
use Rattle.ass_events.specs.Events.{chunk_bytes, chunk_made, chunk_of, chunked, event_of_line, is_time}
use Rattle.ass_events.specs.declared.event.Chunk.{Chunk}
use Rattle.ass_events.specs.declared.event.ChunkRefusal.{ChunkRefusal}
use Rattle.ass_events.specs.declared.event.Event.{Event}
use Rattle.ass_events.proofs.LawLemmas.{line_gives_event, read_back}
use Rattle.ass_num.specs.declared.memory.OutOfMemory.{OutOfMemory as NoMemory}
use Rattle.ass_num.specs.Limits.{max_instant, max_text_bytes}
use Rattle.std.proofs.lemmas.Int.{ints}
use Rattle.ass_script.specs.Ranges.{IsScript}
use Rattle.ass_script.specs.Scripts.{ScriptValue}
use Rattle.ass_events.specs.ScriptEvents.{event_given}
use Rattle.track_history.specs.Calls.{IsEventFed, IsFed, IsFedBy, TrackView}
use Rattle.track_history.specs.declared.answers.Feed.{Feed}
use Rattle.track_history.specs.declared.answers.Feed.TheVariants.{OutOfMemory}
use Rattle.turn_cell.specs.History.{IsPrefix}
use Rattle.renderer.specs.Passes.{RenderView}
use Rattle.play_shares.specs.Batches.{offered}
use Rattle.play_model.specs.Feeding.{HasMemory, repeats}
use Rattle.play_model.specs.Plays.{IsPlayable, PlayView, events_again, events_at, events_in}
use Rattle.play_model.proofs.ChunkLengths.{short_chunk}
use Rattle.play_model.proofs.Shares.{events_parts, flags_long}
use Rattle.play_workers.specs.Offers.{AreEventsFed, AreOffered, HasGiven}
use Rattle.play_workers.specs.Parts.{IsBatchFed}
use Rattle.play_workers.specs.Stages.{IsPlayStage, play_on}
use Rattle.play_workers.specs.declared.stage.PlayStage.{PlayStage}
use Rattle.play_workers.proofs.Offered.{event_fed, fed_front, fed_more, fed_twice, front_none, given_same, offered_none}
use Rattle.play_workers.proofs.Shared.{events_offered}

-- ---- one line

none_chunked : (r : Result Event ChunkRefusal) (refusal : ChunkRefusal) → chunked r ≡ Err refusal → event_given r ++ [] ≡ []
none_chunked (Ok event) refusal e = absurd (let made : Ok (chunk_made event) ≡ Err refusal = e in cc)
none_chunked (Err other) refusal e = refl

some_chunked : (r : Result Event ChunkRefusal) (chunk : Chunk) → chunked r ≡ Ok chunk → (event : Event) × (r ≡ Ok event) × (chunk ≡ chunk_made event)
some_chunked (Ok event) chunk e = (event, refl, (let made : Ok (chunk_made event) ≡ Ok chunk = e in let same : chunk_made event ≡ chunk = cc in sym same))
some_chunked (Err other) chunk e = absurd (let none : Err other ≡ Ok chunk = e in cc)

-- nothing was fed for lack of memory
pub none_fed_yet : (pass : TrackView) (events : List Event) (refused : NoMemory) → HasGiven pass pass (AreEventsFed pass pass events (Err refused))
none_fed_yet pass events refused = given_same pass (AreEventsFed pass pass events (Err refused)) (front_none pass pass events)

-- a line that gives no event
pub line_without_event : (script : ScriptValue) (line : ℕ) (refusal : ChunkRefusal) (pass : TrackView) → chunk_of script line ≡ Err refusal
    → HasGiven pass pass (AreEventsFed {E = NoMemory} pass pass (events_at script (line ∷ [])) (Ok 0))
line_without_event script line refusal pass none =
    subst (λ (es : List Event). HasGiven pass pass (AreEventsFed {E = NoMemory} pass pass es (Ok 0))) (sym (none_chunked (event_of_line script line) refusal none))
    (given_same pass (AreEventsFed {E = NoMemory} pass pass [] (Ok 0)) (offered_none pass pass))

-- the chunk of a line may be fed
pub line_short : (play : PlayView) (line : ℕ) (chunk : Chunk) → IsPlayable play → line < length play.script.lines → chunk_of play.script line ≡ Ok chunk → length chunk.bytes ≤ max_text_bytes
line_short play line chunk playable inside is =
    let made = some_chunked (event_of_line play.script line) chunk is in
    subst (λ (c : Chunk). length c.bytes ≤ max_text_bytes) (sym made.2) (short_chunk play line made.0 playable inside made.1)

-- a line whose chunk was fed
pub line_fed : (script : ScriptValue) (line : ℕ) (chunk : Chunk) (pass after : TrackView) (answer : Feed) (more : Result ℕ NoMemory) → IsScript script → line < length script.lines
    → chunk_of script line ≡ Ok chunk → IsFed chunk.bytes chunk.start chunk.duration pass after answer
    → IfOk more (λ n. (n ≡ repeats answer) × HasMemory answer) → OnErr more (answer ≡ OutOfMemory) → HasGiven pass after (AreEventsFed pass after (events_at script (line ∷ [])) more)
line_fed script line chunk pass after answer more is inside read fed told wanting =
    let made = some_chunked (event_of_line script line) chunk read in
    let event = made.0 in
    let as_made : IsFed (chunk_bytes event) event.start event.duration pass after answer = subst (λ (c : Chunk). IsFed c.bytes c.start c.duration pass after answer) made.2 fed in
    let as_event : IsEventFed event pass after answer = subst (λ (r : Result Event ChunkRefusal). IsFedBy r pass after answer) (read_back event (line_gives_event script line event is inside made.1)) as_made in
    subst (λ (r : Result Event ChunkRefusal). HasGiven pass after (AreEventsFed pass after (event_given r ++ []) more)) (sym made.1) (event_fed event pass after answer more as_event told wanting)

-- its times fit a register
time_fits : (t : ℤ) → is_time t ≡ true → FitsSigned w64 t
time_fits t is = let low : (pos 0 ≤ℤ t) × (t ≤ℤ pos max_instant) = within t is in omega (arith, ints, low.0, low.1)
  where
    by : (t : ℤ) (a b : Bool) → (a && b) ≡ true → (a ≡ true → pos 0 ≤ℤ t) → (b ≡ true → t ≤ℤ pos max_instant) → (pos 0 ≤ℤ t) × (t ≤ℤ pos max_instant)
    by t true true e low high = (low refl, high refl)
    by t true false e low high = absurd cc
    by t false b e low high = absurd cc

    within : (t : ℤ) → is_time t ≡ true → (pos 0 ≤ℤ t) × (t ≤ℤ pos max_instant)
    within t e = by t (int_le (pos 0) t) (int_le t (pos max_instant)) e (λ low. grind (arith, ints)) (λ high. grind (arith, ints))

pub times_fit : (script : ScriptValue) (line : ℕ) (chunk : Chunk) → IsScript script → line < length script.lines → chunk_of script line ≡ Ok chunk → FitsSigned w64 chunk.start × FitsSigned w64 chunk.duration
times_fit script line chunk is inside read =
    let made = some_chunked (event_of_line script line) chunk read in
    let event = line_gives_event script line made.0 is inside made.1 in
    subst (λ (c : Chunk). FitsSigned w64 c.start × FitsSigned w64 c.duration) (sym made.2) (time_fits made.0.start event.start, time_fits made.0.duration event.duration)

-- a line of a stage is one of its script
pub line_inside : (stage : PlayStage) (line : ℕ) → IsPlayStage stage → line < length stage.good → line < length (arc_value stage.script).lines
line_inside stage line is lt = subst (λ (n : ℕ). line < n) (ap length is.good ∙ flags_long (arc_value stage.script)) lt

-- ---- lines in order

module _ (script : ScriptValue) (lines : List ℕ) (i line : ℕ) (inside : i < length lines) (here : get_or lines i 0 ≡ line) (pass mid after : TrackView) (m : ℕ)
    (so_far : HasGiven pass mid (λ given. AreOffered pass mid (events_at script (take i lines)) given m)) where
  one_more : events_at script (take i lines) ++ events_at script (line ∷ []) ≡ events_at script (take (i + 1) lines)
  one_more = sym (events_parts script (take i lines) (line ∷ [])) ∙ ap (events_at script) (ap (λ (n : ℕ). take i lines ++ n ∷ []) (sym here) ∙ sym (take_more lines i 0 inside))

  pub lines_more : (n : ℕ) → HasGiven mid after (AreEventsFed {E = NoMemory} mid after (events_at script (line ∷ [])) (Ok n))
      → HasGiven pass after (λ given. AreOffered pass after (events_at script (take (i + 1) lines)) given (m + n))
  lines_more n next =
      subst (λ (es : List Event). HasGiven pass after (λ given. AreOffered pass after es given (m + n))) one_more
      (fed_more pass mid after (events_at script (take i lines)) (events_at script (line ∷ [])) m so_far n next)

  begins_all : IsPrefix (events_at script (take i lines) ++ events_at script (line ∷ [])) (events_at script lines)
  begins_all = (
    events_at script (drop (i + 1) lines),
    ap (λ es. es ++ events_at script (drop (i + 1) lines)) one_more ∙ sym (events_parts script (take (i + 1) lines) (drop (i + 1) lines)) ∙ ap (events_at script) (take-append-drop (i + 1) lines),
  )

  pub lines_front : (refused : NoMemory) → HasGiven mid after (AreEventsFed mid after (events_at script (line ∷ [])) (Err refused))
      → HasGiven pass after (AreEventsFed pass after (events_at script lines) (Err refused))
  lines_front refused next = fed_front pass mid after (events_at script (take i lines)) (events_at script (line ∷ [])) m so_far (events_at script lines) begins_all next

-- before the first line
pub lines_none : (script : ScriptValue) (pass : TrackView) → HasGiven pass pass (λ given. AreOffered pass pass (events_at script []) given 0)
lines_none script pass = given_same pass (λ given. AreOffered pass pass [] given 0) (offered_none pass pass)

-- behind the last one
pub lines_all : (script : ScriptValue) (lines : List ℕ) (i : ℕ) (pass after : TrackView) (m : ℕ) → length lines ≤ i
    → HasGiven pass after (λ given. AreOffered pass after (events_at script (take i lines)) given m) → HasGiven pass after (AreEventsFed {E = NoMemory} pass after (events_at script lines) (Ok m))
lines_all script lines i pass after m end all =
    subst (λ (ls : List ℕ). HasGiven pass after (AreEventsFed {E = NoMemory} pass after (events_at script ls) (Ok m))) (take_all i lines end) all

-- ---- what a feeder has for a round

module _ (stage : PlayStage) (round feeder : ℕ) (pass after : RenderView) where
  abbrev again : List Event
  again = events_again (play_on stage) round feeder

  abbrev batch : List Event
  batch = events_in (play_on stage) round feeder

  batch_fed : (answer : Result ℕ NoMemory) → HasGiven pass.track after.track (AreEventsFed pass.track after.track (again ++ batch) answer)
      → HasGiven pass.track after.track (IsBatchFed stage round feeder pass after answer)
  batch_fed (Ok repeated) fed = record {
    given = fed.given;
    follows = fed.follows;
    as_told = λ old before fresh dead first last. fed_twice before again batch fresh _ repeated (fed.as_told old before fresh dead first last);
  }
  batch_fed (Err refused) fed = record { given = fed.given; follows = fed.follows; as_told = fed.as_told }

  pub part_fed : (lines : List ℕ) (answer : Result ℕ NoMemory) → IsPlayStage stage → lines ≡ offered stage.job stage.good round feeder
      → HasGiven pass.track after.track (AreEventsFed pass.track after.track (events_at (arc_value stage.script) lines) answer)
      → HasGiven pass.track after.track (IsBatchFed stage round feeder pass after answer)
  part_fed lines answer is are fed =
      batch_fed answer
      (subst (λ (es : List Event). HasGiven pass.track after.track (AreEventsFed pass.track after.track es answer))
      (ap (events_at (arc_value stage.script)) are ∙ events_offered (play_on stage) stage.good round feeder is.good) fed)

-- it may be that no line was had
pub part_unfed : (stage : PlayStage) (round feeder : ℕ) (pass : RenderView) (refused : NoMemory) → HasGiven pass.track pass.track (IsBatchFed stage round feeder pass pass (Err refused))
part_unfed stage round feeder pass refused =
    given_same pass.track (IsBatchFed stage round feeder pass pass (Err refused)) (front_none pass.track pass.track (events_again (play_on stage) round feeder ++ events_in (play_on stage) round feeder))
