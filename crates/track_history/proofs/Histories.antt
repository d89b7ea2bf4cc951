-- What one more entry makes of a history, and of what is kept of it.
use Rattle.std.proofs.Common.{◌≡◌, ◌≢◌, ℕ, ◌+◌, ◌-◌, ◌<◌, ◌≤◌, Bool, true, false, cond, List, [], ◌∷◌, ◌++◌, length, refl, sym, ap, subst, ◌∙◌, arith, ◌⊎◌, ⊎_elim, inl, inr, Option, Some, None}
use Rattle.std.specs.Prelude.{nat_le, ◌==◌, is_some, ◌||◌}
use Rattle.std.specs.List.{All, position_from}
use Rattle.std.proofs.lemmas.Bool.{cases_Bool}
use Rattle.std.proofs.lemmas.Bool.Decides.{nat_tests}
use Rattle.std.proofs.lemmas.List.{length_push, append-nil}
use Rattle.std.proofs.lemmas.List.Elements.{All-nil, All-cons, All-head, All-tail, All-append}
use Rattle.ass_events.specs.declared.event.Event.{Event}
use Rattle.ass_events.specs.Histories.{Entry, Chunk, Flush, HaveOwnOrders, IsHistory, max_live, max_flushes, live, live_after, flushes_of, has_order, after, flushed}
use Rattle.track_history.specs.declared.answers.Feed.TheVariants.{Accepted, Repeated, Full}
use Rattle.track_history.specs.declared.answers.Flushed.TheVariants.{Done, TooMany}
use Rattle.track_history.specs.declared.live_events.LiveEvents.{LiveEvents}
use Rattle.track_history.specs.ShortEvents.{IsShortEvent, IsShortEntry, HaveShortEvents}
use Rattle.track_history.specs.Answers.{answer_by, extended, fed_entry, feed_answer, flush_answer, flushed_entry, position_of}
use Rattle.track_history.specs.Tellings.{Tells, events_of}
use Rattle.near_events.proofs.Pairs.{Pairwise-push}
use Rattle.track_history.proofs.Places.{position_absent}

module _ {X : Type 0} where
  nothing_before : (xs ys : List X) → xs ++ ys ≡ [] → xs ≡ []
  nothing_before [] ys e = refl
  nothing_before (x ∷ xs) ys e = cc

  -- the front of a list with one more is the front of the list, or is all of it
  front_cases : (front rest xs : List X) (x : X) → front ++ rest ≡ xs ++ x ∷ [] → ((back : List X) × (front ++ back ≡ xs)) ⊎ (front ≡ xs ++ x ∷ [])
  front_cases [] rest xs x e = inl (xs, refl)
  front_cases (f ∷ fs) rest [] x e = let whole : f ∷ (fs ++ rest) ≡ x ∷ [] = e in let none : fs ++ rest ≡ [] = cc in let head : f ≡ x = cc in let tail : fs ≡ [] = nothing_before fs rest none in inr cc
  front_cases (f ∷ fs) rest (y ∷ ys) x e =
      let whole : f ∷ (fs ++ rest) ≡ y ∷ (ys ++ x ∷ []) = e in let head : f ≡ y = cc in let tail : fs ++ rest ≡ ys ++ x ∷ [] = cc in
      ⊎_elim (λ p. inl (p.0, λ i. head i ∷ p.1 i)) (λ q. inr (λ i. head i ∷ q i)) (front_cases fs rest ys x tail)

pub live_after-append : (events : List Event) (xs ys : List Entry) → live_after events (xs ++ ys) ≡ live_after (live_after events xs) ys
live_after-append events [] ys = refl
live_after-append events (Chunk e ∷ xs) ys = live_after-append (events ++ e ∷ []) xs ys
live_after-append events (Flush ∷ xs) ys = live_after-append [] xs ys

pub live-chunk : (xs : List Entry) (e : Event) → live (xs ++ Chunk e ∷ []) ≡ live xs ++ e ∷ []
live-chunk xs e = live_after-append [] xs (Chunk e ∷ [])

pub live-flush : (xs : List Entry) → live (xs ++ Flush ∷ []) ≡ []
live-flush xs = live_after-append [] xs (Flush ∷ [])

pub flushes_of-append : (xs ys : List Entry) → flushes_of (xs ++ ys) ≡ flushes_of xs + flushes_of ys
flushes_of-append [] ys = omega arith
flushes_of-append (Chunk e ∷ xs) ys = flushes_of-append xs ys
flushes_of-append (Flush ∷ xs) ys = let h = flushes_of-append xs ys in omega arith

pub IsHistory_nil : IsHistory []
IsHistory_nil = record {
  flushes = omega arith;
  orders = λ front rest e. subst (λ (z : List Entry). HaveOwnOrders (live z)) (sym (nothing_before front rest e)) tt;
  few = λ front rest e. subst (λ (z : List Entry). length (live z) ≤ max_live) (sym (nothing_before front rest e)) (omega arith);
}

IsHistory_push : (xs : List Entry) (x : Entry) → IsHistory xs → flushes_of (xs ++ x ∷ []) ≤ max_flushes → HaveOwnOrders (live (xs ++ x ∷ [])) → length (live (xs ++ x ∷ [])) ≤ max_live → IsHistory (xs ++ x ∷ [])
IsHistory_push xs x legal flushes orders few = record {
  flushes = flushes;
  orders = λ front rest e. ⊎_elim (λ q. legal.orders front q.0 q.1) (λ whole. subst (λ (z : List Entry). HaveOwnOrders (live z)) (sym whole) orders) (front_cases front rest xs x e);
  few = λ front rest e. ⊎_elim (λ q. legal.few front q.0 q.1) (λ whole. subst (λ (z : List Entry). length (live z) ≤ max_live) (sym whole) few) (front_cases front rest xs x e);
}

-- ---- short events
short_push : (xs : List Entry) (x : Entry) → HaveShortEvents xs → IsShortEntry x → HaveShortEvents (xs ++ x ∷ [])
short_push xs x h short = All-append IsShortEntry xs (x ∷ []) h (All-cons IsShortEntry x [] short (All-nil IsShortEntry))

short_after : (events : List Event) (entries : List Entry) → All IsShortEvent events → HaveShortEvents entries → All IsShortEvent (live_after events entries)
short_after events [] held h = held
short_after events (Chunk e ∷ es) held h =
    let one : IsShortEvent e = All-head IsShortEntry (Chunk e) es h in
    short_after (events ++ e ∷ []) es (All-append IsShortEvent events (e ∷ []) held (All-cons IsShortEvent e [] one (All-nil IsShortEvent))) (All-tail IsShortEntry (Chunk e) es h)
short_after events (Flush ∷ es) held h = short_after [] es (All-nil IsShortEvent) (All-tail IsShortEntry Flush es h)

pub live_short : (history : List Entry) → HaveShortEvents history → All IsShortEvent (live history)
live_short history h = short_after [] history (All-nil IsShortEvent) h

-- ---- what is kept
pub tells_nothing : (kept : LiveEvents) → events_of kept ≡ [] → kept.entries ≡ 0 → kept.flushes ≡ 0 → Tells kept []
tells_nothing kept events entries flushes = record { events = events; entries = entries; flushes = flushes; legal = IsHistory_nil; short = All-nil IsShortEntry }

pub tells_same : (kept later : LiveEvents) (history : List Entry) → Tells kept history → events_of later ≡ events_of kept → later.entries ≡ kept.entries → later.flushes ≡ kept.flushes → Tells later history
tells_same kept later history tells events entries flushes =
    record { events = events ∙ tells.events; entries = entries ∙ tells.entries; flushes = flushes ∙ tells.flushes; legal = tells.legal; short = tells.short }

pub tells_accepted : (kept later : LiveEvents) (history : List Entry) (e : Event) → Tells kept history → IsShortEvent e → position_of e.order (events_of kept) ≡ None → length (events_of kept) < max_live
    → events_of later ≡ events_of kept ++ e ∷ [] → later.entries ≡ kept.entries + 1 → later.flushes ≡ kept.flushes → Tells later (history ++ Chunk e ∷ [])
tells_accepted kept later history e tells short_event absent room events entries flushes =
    let was = tells.events in
    let now : live (history ++ Chunk e ∷ []) ≡ live history ++ e ∷ [] = live-chunk history e in
    let others = subst (λ (es : List Event). All (λ a. a.order ≢ e.order) es) was (position_absent e.order (events_of kept) absent) in
    let no_flush : flushes_of (history ++ Chunk e ∷ []) ≡ flushes_of history + 0 = flushes_of-append history (Chunk e ∷ []) in
    let legal = tells.legal in
    let most = legal.flushes in
    let short : length (live history) < max_live = subst (λ (es : List Event). length es < max_live) was room in
    record {
      events = events ∙ (ap (λ z. z ++ e ∷ []) was ∙ sym now);
      entries = omega (arith, entries, tells.entries, length_push history (Chunk e));
      flushes = omega (arith, flushes, tells.flushes, no_flush);
      legal = IsHistory_push history (Chunk e) legal (omega (arith, no_flush, most))
          (subst HaveOwnOrders (sym now) (Pairwise-push (λ (a b : Event). a.order ≢ b.order) (live history) e (legal.orders history [] (append-nil history)) others))
          (subst (λ (es : List Event). length es ≤ max_live) (sym now) (omega (arith, length_push (live history) e, short)));
      short = short_push history (Chunk e) tells.short short_event;
    }

pub tells_flushed : (kept later : LiveEvents) (history : List Entry) → Tells kept history → kept.flushes < max_flushes → events_of later ≡ [] → later.entries ≡ kept.entries + 1 → later.flushes ≡ kept.flushes + 1
    → Tells later (history ++ Flush ∷ [])
tells_flushed kept later history tells room events entries flushes =
    let now : live (history ++ Flush ∷ []) ≡ [] = live-flush history in
    let more : flushes_of (history ++ Flush ∷ []) ≡ flushes_of history + (0 + 1) = flushes_of-append history (Flush ∷ []) in
    let was = tells.flushes in
    record {
      events = events ∙ sym now;
      entries = omega (arith, entries, tells.entries, length_push history Flush);
      flushes = omega (arith, flushes, was, more);
      legal = IsHistory_push history Flush tells.legal (omega (arith, was, more, room)) (subst HaveOwnOrders (sym now) tt) (subst (λ (es : List Event). length es ≤ max_live) (sym now) (omega arith));
      short = short_push history Flush tells.short tt;
    }

-- ---- answers
by_events : (kept : LiveEvents) (history : List Entry) (order : ℕ) → Tells kept history
    → answer_by (position_of order (events_of kept)) (length (events_of kept)) kept.entries ≡ answer_by (position_of order (live history)) (length (live history)) (length history)
by_events kept history order tells =
    ap (λ (es : List Event). answer_by (position_of order es) (length es) kept.entries) tells.events ∙ ap (λ n. answer_by (position_of order (live history)) (length (live history)) n) tells.entries

pub answer_repeated : (kept : LiveEvents) (history : List Entry) (e : Event) (place : ℕ) → Tells kept history → position_of e.order (events_of kept) ≡ Some place
    → Repeated (kept.entries - length (events_of kept) + place) ≡ feed_answer history e
answer_repeated kept history e place tells found = sym (ap (λ o. answer_by o (length (events_of kept)) kept.entries) found) ∙ by_events kept history e.order tells

pub answer_full : (kept : LiveEvents) (history : List Entry) (e : Event) → Tells kept history → position_of e.order (events_of kept) ≡ None → max_live ≤ length (events_of kept)
    → Full max_live ≡ feed_answer history e
answer_full kept history e tells absent full =
    let test : nat_le max_live (length (events_of kept)) ≡ true = grind (arith, nat_tests) in
    sym (ap (λ o. answer_by o (length (events_of kept)) kept.entries) absent ∙ ap (λ b. cond b (Full max_live) (Accepted kept.entries)) test) ∙ by_events kept history e.order tells

pub answer_accepted : (kept : LiveEvents) (history : List Entry) (e : Event) → Tells kept history → position_of e.order (events_of kept) ≡ None → length (events_of kept) < max_live
    → Accepted kept.entries ≡ feed_answer history e
answer_accepted kept history e tells absent room =
    let test : nat_le max_live (length (events_of kept)) ≡ false = grind (arith, nat_tests) in
    sym (ap (λ o. answer_by o (length (events_of kept)) kept.entries) absent ∙ ap (λ b. cond b (Full max_live) (Accepted kept.entries)) test) ∙ by_events kept history e.order tells

-- an event that memory is wanting for would have been accepted
pub accepted_else : (kept : LiveEvents) (history : List Entry) (e : Event) → Tells kept history → position_of e.order (events_of kept) ≡ None → length (events_of kept) < max_live
    → feed_answer history e ≡ Accepted (length history)
accepted_else kept history e tells absent room = sym (answer_accepted kept history e tells absent room) ∙ ap Accepted tells.entries

pub answer_done : (kept : LiveEvents) (history : List Entry) → Tells kept history → kept.flushes < max_flushes → Done kept.entries ≡ flush_answer history
answer_done kept history tells room =
    let was = tells.flushes in let test : nat_le max_flushes (flushes_of history) ≡ false = grind (arith, nat_tests) in
    ap Done tells.entries ∙ sym (ap (λ b. cond b (TooMany max_flushes) (Done (length history))) test)

pub answer_too_many : (kept : LiveEvents) (history : List Entry) → Tells kept history → max_flushes ≤ kept.flushes → TooMany max_flushes ≡ flush_answer history
answer_too_many kept history tells full =
    let was = tells.flushes in let test : nat_le max_flushes (flushes_of history) ≡ true = grind (arith, nat_tests) in
    sym (ap (λ b. cond b (TooMany max_flushes) (Done (length history))) test)

-- ---- what the answer adds is what the rule adds
any_from_position : (order i : ℕ) (events : List Event) → has_order order events ≡ is_some (position_from (λ (e : Event). e.order == order) i events)
any_from_position order i [] = refl
any_from_position order i (e ∷ es) =
    let rest = any_from_position order (i + 1) es in
    ⊎_elim (λ pass. ap (λ b. b || has_order order es) pass ∙ sym (ap (λ b. is_some (cond b (Some i) (position_from (λ (e : Event). e.order == order) (i + 1) es))) pass))
    (λ fail. ap (λ b. b || has_order order es) fail ∙ (rest ∙ sym (ap (λ b. is_some (cond b (Some i) (position_from (λ (e : Event). e.order == order) (i + 1) es))) fail)))
    (cases_Bool (e.order == order))

answered : (history : List Entry) (e : Event) (o : Option ℕ) → has_order e.order (live history) ≡ is_some o → extended history (fed_entry e (answer_by o (length (live history)) (length history))) ≡ after history e
answered history e (Some place) test = sym (ap (λ b. cond (b || nat_le max_live (length (live history))) history (history ++ Chunk e ∷ [])) test)
answered history e None test =
    let added = sym (ap (λ b. cond (b || nat_le max_live (length (live history))) history (history ++ Chunk e ∷ [])) test) in
    by_room (nat_le max_live (length (live history))) ∙ added
  where
    by_room : (full : Bool) → extended history (fed_entry e (cond full (Full max_live) (Accepted (length history)))) ≡ cond full history (history ++ Chunk e ∷ [])
    by_room true = refl
    by_room false = refl

pub fed_after : (history : List Entry) (e : Event) → extended history (fed_entry e (feed_answer history e)) ≡ after history e
fed_after history e = answered history e (position_of e.order (live history)) (any_from_position e.order 0 (live history))

by_room : (history : List Entry) (full : Bool) → extended history (flushed_entry (cond full (TooMany max_flushes) (Done (length history)))) ≡ cond full history (history ++ Flush ∷ [])
by_room history true = refl
by_room history false = refl

pub flushed_after : (history : List Entry) → extended history (flushed_entry (flush_answer history)) ≡ flushed history
flushed_after history = by_room history (nat_le max_flushes (flushes_of history))
