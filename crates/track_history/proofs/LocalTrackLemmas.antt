-- What feeding and flushing a track comes to.
use Rattle.std.proofs.Common.{◌≡◌, ◌≢◌, ℕ, ℤ, Result, ◌+◌, ◌<◌, ◌≤◌, if◌then◌else◌, List, [], ◌∷◌, ◌++◌, length, get_or, map, take, drop, refl, sym, ap, subst, ◌∙◌, arith}
use Rattle.std.specs.Prelude.{nat_le}
use Rattle.std.specs.List.{All, fold}
use Rattle.std.specs.Arc.{arc_value}
use Rattle.std.specs.Result.{IfOk}
use Rattle.std.proofs.lemmas.Result.{IfOk-weaker}
use Rattle.std.proofs.lemmas.List.{get_or-map, length-map, length_push, map_more, take-append-drop, map-append}
use Rattle.std.proofs.lemmas.List.Elements.{All-get_or, All-weaker}
use Rattle.std.proofs.lemmas.List.Sums.{fold-append}
use Rattle.ass_num.specs.Limits.{max_text_bytes}
use Rattle.ass_events.specs.Histories.{Entry, Chunk, Flush, HaveOwnOrders, IsHistory, live, flushes_of, max_flushes, max_live}
use Rattle.ass_events.specs.NearEvents.{AreNear, span_of}
use Rattle.ass_events.specs.Ranges.{IsEvent}
use Rattle.ass_events.specs.declared.event.Event.{Event}
use Rattle.near_events.specs.declared.near.NearEvents.{NearEvents}
use Rattle.track_history.specs.Answers.{IsFeedAnswer, answer_by, extended, fed_entry, flush_answer, flushed_entry, position_of}
use Rattle.track_history.specs.ShortEvents.{HaveShortEvents, IsShortEvent}
use Rattle.track_history.specs.Tellings.{IsSound, Tells, events_of}
use Rattle.track_history.specs.declared.answers.Feed.{Feed}
use Rattle.track_history.specs.declared.answers.Feed.TheVariants.{Accepted, Repeated, Malformed, Full, OutOfMemory}
use Rattle.track_history.specs.declared.answers.Flushed.{Flushed}
use Rattle.track_history.specs.declared.answers.Flushed.TheVariants.{Done, TooMany}
use Rattle.track_history.specs.declared.live_events.LiveEvents.{LiveEvents}
use Rattle.track_history.proofs.Histories.{live-chunk, live-flush, live_short}
use Rattle.track_history.specs.LocalFeeding.{AreFrontOffered, IsFlushedLocally, IsOfferedTo, after_flush, after_offer, local_flush_answer, offer_answer, with_offer}
use Rattle.track_history.specs.LocalTracks.{LocalTrackView, HasHistory, IsTrackOf, new_track, track_of}

same_track : (a b : LocalTrackView) → a.events ≡ b.events → a.entries ≡ b.entries → a.flushes ≡ b.flushes → a ≡ b
same_track a b events entries flushes = λ i. record { events = events i; entries = entries i; flushes = flushes i }

-- ---- what is kept

pub nothing_told : (kept : LiveEvents) → Tells kept [] → track_of kept ≡ new_track
nothing_told kept tells = same_track (track_of kept) new_track tells.events tells.entries tells.flushes

pub told_track : (track : LocalTrackView) (kept : LiveEvents) → track_of kept ≡ track → HasHistory kept → IsTrackOf track
told_track track kept is has =
    subst IsTrackOf is (record { history = has.history; events = has.tells.events; entries = has.tells.entries; flushes = has.tells.flushes; legal = has.tells.legal; short = has.tells.short })

-- two that tell of one history are one track
told_alike : (kept later : LiveEvents) (history : List Entry) → Tells kept history → Tells later history → track_of later ≡ track_of kept
told_alike kept later history was now =
    same_track (track_of later) (track_of kept) (now.events ∙ sym was.events) (now.entries ∙ sym was.entries) (now.flushes ∙ sym was.flushes)

-- ---- events that are offered

chunk_flushes : (history : List Entry) (event : Event) → flushes_of (history ++ Chunk event ∷ []) ≡ flushes_of history
chunk_flushes [] event = refl
chunk_flushes (Chunk e ∷ history) event = chunk_flushes history event
chunk_flushes (Flush ∷ history) event = ap (λ n. n + 1) (chunk_flushes history event)

told_after : (kept later : LiveEvents) (history : List Entry) (event : Event) (answer : Feed) → Tells kept history
    → Tells later (extended history (fed_entry event answer)) → track_of later ≡ after_offer (track_of kept) event answer
told_after kept later history event (Accepted place) was now =
    let entries : later.entries ≡ kept.entries + 1 = omega (arith, now.entries, was.entries, length_push history (Chunk event)) in
    same_track (track_of later) (after_offer (track_of kept) event (Accepted place))
    (now.events ∙ (live-chunk history event ∙ ap (λ (es : List Event). es ++ event ∷ []) (sym was.events)))
    entries
    (now.flushes ∙ (chunk_flushes history event ∙ sym was.flushes))
told_after kept later history event (Repeated place) was now = told_alike kept later history was now
told_after kept later history event (Malformed field place) was now = told_alike kept later history was now
told_after kept later history event (Full most) was now = told_alike kept later history was now
told_after kept later history event OutOfMemory was now = told_alike kept later history was now

-- the answer to an event, by the track alone
told_answer : (kept : LiveEvents) (history : List Entry) (event : Event) (answer : Feed) → Tells kept history → IsFeedAnswer history event answer
    → answer ≢ OutOfMemory → answer ≡ offer_answer (track_of kept) event
told_answer kept history event answer was is some =
    is some
    ∙ sym (ap (λ (es : List Event). answer_by (position_of event.order es) (length es) kept.entries) was.events
    ∙ ap (λ (n : ℕ). answer_by (position_of event.order (live history)) (length (live history)) n) was.entries)

pub offered_to : (track : LocalTrackView) (kept later : LiveEvents) (event : Event) (answer : Feed) → track_of kept ≡ track → HasHistory kept
    → ((history : List Entry) → Tells kept history → IsFeedAnswer history event answer)
    → ((history : List Entry) → Tells kept history → Tells later (extended history (fed_entry event answer)))
    → IsOfferedTo event track (track_of later) answer
offered_to track kept later event answer is has answers tells =
    subst (λ (t : LocalTrackView). IsOfferedTo event t (track_of later) answer) is (record {
      answered = told_answer kept has.history event answer has.tells (answers has.history has.tells);
      after = told_after kept later has.history event answer has.tells (tells has.history has.tells);
    })

pub still_told : (kept later : LiveEvents) (event : Event) (answer : Feed) → HasHistory kept → IsSound later
    → ((history : List Entry) → Tells kept history → Tells later (extended history (fed_entry event answer))) → HasHistory later
still_told kept later event answer has sound tells =
    record { sound = sound; history = extended has.history (fed_entry event answer); tells = tells has.history has.tells }

-- ---- flushes

one_flush : (history : List Entry) → flushes_of (history ++ Flush ∷ []) ≡ flushes_of history + 1
one_flush [] = refl
one_flush (Chunk e ∷ history) = one_flush history
one_flush (Flush ∷ history) = ap (λ n. n + 1) (one_flush history)

flushed_track : (kept later : LiveEvents) (history : List Entry) (answer : Flushed) → Tells kept history
    → Tells later (extended history (flushed_entry answer)) → track_of later ≡ after_flush (track_of kept) answer
flushed_track kept later history (Done place) was now =
    let entries : later.entries ≡ kept.entries + 1 = omega (arith, now.entries, was.entries, length_push history Flush) in
    let flushes : later.flushes ≡ kept.flushes + 1 = omega (arith, now.flushes, was.flushes, one_flush history) in
    same_track (track_of later) (after_flush (track_of kept) (Done place)) (now.events ∙ live-flush history) entries flushes
flushed_track kept later history (TooMany most) was now = told_alike kept later history was now

flush_told : (kept : LiveEvents) (history : List Entry) → Tells kept history → flush_answer history ≡ local_flush_answer (track_of kept)
flush_told kept history was =
    sym (ap (λ (n : ℕ). if nat_le max_flushes n then TooMany max_flushes else Done kept.entries) was.flushes
    ∙ ap (λ (n : ℕ). if nat_le max_flushes (flushes_of history) then TooMany max_flushes else Done n) was.entries)

pub flushed_alone : (track : LocalTrackView) (kept later : LiveEvents) (answer : Flushed) → track_of kept ≡ track → HasHistory kept
    → ((history : List Entry) → Tells kept history → answer ≡ flush_answer history)
    → ((history : List Entry) → Tells kept history → Tells later (extended history (flushed_entry answer)))
    → IsFlushedLocally track (track_of later) answer
flushed_alone track kept later answer is has answers tells =
    subst (λ (t : LocalTrackView). IsFlushedLocally t (track_of later) answer) is (record {
      answered = answers has.history has.tells ∙ flush_told kept has.history has.tells;
      after = flushed_track kept later has.history answer has.tells (tells has.history has.tells);
    })

pub still_flushed : (kept later : LiveEvents) (answer : Flushed) → HasHistory kept → IsSound later
    → ((history : List Entry) → Tells kept history → Tells later (extended history (flushed_entry answer))) → HasHistory later
still_flushed kept later answer has sound tells =
    record { sound = sound; history = extended has.history (flushed_entry answer); tells = tells has.history has.tells }

-- ---- one event after the other

pub offered_more : {A : Type 0} (value : A → Event) (events : List A) (i : ℕ) (event : A) (old before after : LocalTrackView) → i < length events → event ≡ get_or events i event
    → before ≡ fold with_offer old (map value (take i events)) → after ≡ with_offer before (value event)
    → after ≡ fold with_offer old (map value (take (i + 1) events))
offered_more {A} value events i event old before after below is so step =
    let more : map value (take (i + 1) events) ≡ map value (take i events) ++ value event ∷ [] =
    map_more value events i event below ∙ ap (λ (e : A). map value (take i events) ++ value e ∷ []) (sym is) in
    step
    ∙ (ap (λ (t : LocalTrackView). with_offer t (value event)) so
    ∙ sym (ap (fold with_offer old) more ∙ fold-append with_offer old (map value (take i events)) (value event ∷ [])))

pub offered_front : {A : Type 0} (value : A → Event) (events : List A) (i : ℕ) (old before after : LocalTrackView)
    → before ≡ fold with_offer old (map value (take i events)) → after ≡ before → AreFrontOffered (map value events) old after
offered_front value events i old before after so same = record {
  front = map value (take i events);
  back = map value (drop i events);
  is = ap (map value) (sym (take-append-drop i events)) ∙ map-append value (take i events) (drop i events);
  offered = same ∙ so;
}

-- an event of short ones
pub short_at : {A : Type 0} (value : A → Event) (events : List A) (i : ℕ) (event : A) → All IsShortEvent (map value events) → i < length events → event ≡ get_or events i event → IsShortEvent (value event)
short_at value events i event all below is =
    subst IsShortEvent (get_or-map value events i event (value event) below ∙ ap value (sym is))
    (All-get_or IsShortEvent (map value events) i (value event) (omega (arith, length-map events value, below)) all)

-- none was
pub none_offered : (events : List Event) (old after : LocalTrackView) → after ≡ old → AreFrontOffered events old after
none_offered events old after same = record { front = []; back = events; is = refl; offered = same }

-- ---- what is live

short_are_events : (events : List Event) → All IsShortEvent events → All IsEvent events
short_are_events events short = All-weaker IsShortEvent IsEvent (λ e is. is.is_event) events short

pub live_events : (kept : LiveEvents) (history : List Entry) → Tells kept history → All IsEvent (events_of kept)
live_events kept history tells =
    subst (λ (events : List Event). All IsEvent events) (sym tells.events) (short_are_events (live history) (live_short history tells.short))

-- ---- what is near

short_have_texts : (events : List Event) → All IsShortEvent events → All (λ (e : Event). length e.text ≤ max_text_bytes) events
short_have_texts events short = All-weaker IsShortEvent (λ (e : Event). length e.text ≤ max_text_bytes) (λ e is. omega (arith, is.texts)) events short

near_told : (kept : LiveEvents) (history : List Entry) (near : List Event) (t : ℤ) → Tells kept history → AreNear span_of (events_of kept) t near → AreNear span_of (live history) t near
near_told kept history near t tells are = subst (λ (events : List Event). AreNear span_of events t near) tells.events are

abbrev seen : NearEvents → List Event
seen near = map arc_value near.events

module _ {E : Type 0} (r : Result NearEvents E) (kept : LiveEvents) (history : List Entry) (t : ℤ) (tells : Tells kept history)
    (are : IfOk r (λ (near : NearEvents). AreNear span_of (events_of kept) t (seen near))) where
  near_short : ((entries : List Entry) (near : List Event) (u : ℤ) → HaveShortEvents entries → AreNear span_of (live entries) u near → All IsShortEvent near)
      → IfOk r (λ (near : NearEvents). All IsShortEvent (seen near))
  near_short law = IfOk-weaker r (λ (near : NearEvents). AreNear span_of (events_of kept) t (seen near)) (λ (near : NearEvents). All IsShortEvent (seen near))
      (λ (near : NearEvents) is. law history (seen near) t tells.short (near_told kept history (seen near) t tells is)) are

  pub near_each : ((entries : List Entry) (near : List Event) (u : ℤ) → HaveShortEvents entries → AreNear span_of (live entries) u near → All IsShortEvent near)
      → IfOk r (λ (near : NearEvents). All IsEvent (seen near))
  near_each law = IfOk-weaker r (λ (near : NearEvents). All IsShortEvent (seen near)) (λ (near : NearEvents). All IsEvent (seen near)) (λ (near : NearEvents) is. short_are_events (seen near) is) (near_short law)

  pub near_texts : ((entries : List Entry) (near : List Event) (u : ℤ) → HaveShortEvents entries → AreNear span_of (live entries) u near → All IsShortEvent near)
      → IfOk r (λ (near : NearEvents). All (λ (e : Event). length e.text ≤ max_text_bytes) (seen near))
  near_texts law =
      IfOk-weaker r (λ (near : NearEvents). All IsShortEvent (seen near)) (λ (near : NearEvents). All (λ (e : Event). length e.text ≤ max_text_bytes) (seen near))
      (λ (near : NearEvents) is. short_have_texts (seen near) is) (near_short law)

  pub near_few : ((entries : List Entry) (near : List Event) (u : ℤ) → IsHistory entries → AreNear span_of (live entries) u near → length near ≤ max_live)
      → IfOk r (λ (near : NearEvents). length near.events ≤ max_live)
  near_few law = IfOk-weaker r (λ (near : NearEvents). AreNear span_of (events_of kept) t (seen near)) (λ (near : NearEvents). length near.events ≤ max_live)
      (λ (near : NearEvents) is. omega (arith, law history (seen near) t tells.legal (near_told kept history (seen near) t tells is), length-map near.events arc_value)) are

  pub near_orders : ((entries : List Entry) (near : List Event) (u : ℤ) → IsHistory entries → AreNear span_of (live entries) u near → HaveOwnOrders near)
      → IfOk r (λ (near : NearEvents). HaveOwnOrders (seen near))
  near_orders law = IfOk-weaker r (λ (near : NearEvents). AreNear span_of (events_of kept) t (seen near)) (λ (near : NearEvents). HaveOwnOrders (seen near))
      (λ (near : NearEvents) is. law history (seen near) t tells.legal (near_told kept history (seen near) t tells is)) are
