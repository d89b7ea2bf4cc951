-- Offers one after another.
use Rattle.std.proofs.Common.{◌≡◌, ℕ, ◌+◌, List, [], ◌∷◌, ◌++◌, length, map, take, drop, refl, sym, ap, ◌∙◌, arith, append_assoc, append-nil, length-append}
use Rattle.std.proofs.lemmas.List.{drop-map, map-append, take-append-drop, take-map}
use Rattle.std.proofs.lemmas.List.Elements.{All-append, All-cons, All-drop, All-nil, All-take, All-weaker, Contains-append_left}
use Rattle.std.proofs.Math.Seq.{drop-append_seam, take-append_seam}
use Rattle.turn_cell.specs.History.{entry_list}
use Rattle.ass_events.specs.Histories.{Entry, Chunk, Flush, flushes_of}
use Rattle.ass_events.specs.declared.event.Event.{Event}
use Rattle.track_history.specs.Answers.{fed_entry}
use Rattle.track_history.specs.declared.answers.Feed.{Feed}
use Rattle.track_history.specs.declared.answers.Feed.TheVariants.{Accepted, Repeated, Malformed, Full, OutOfMemory}
use Rattle.play_model.specs.Feeding.{AreFed, AreFedTwice, FeedAnswer, Has, IsKnown, IsKnownOf, accepted_of, repeated_of, repeats}

pub accepted_of-append : (xs ys : List FeedAnswer) → accepted_of (xs ++ ys) ≡ accepted_of xs ++ accepted_of ys
accepted_of-append [] ys = refl
accepted_of-append (a ∷ xs) ys =
    ap (λ z. entry_list (fed_entry a.0 a.1) ++ z) (accepted_of-append xs ys) ∙ sym (append_assoc (entry_list (fed_entry a.0 a.1)) (accepted_of xs) (accepted_of ys))

pub repeated_of-append : (xs ys : List FeedAnswer) → repeated_of (xs ++ ys) ≡ repeated_of xs + repeated_of ys
repeated_of-append [] ys = omega arith
repeated_of-append (a ∷ xs) ys = let rest = repeated_of-append xs ys in omega arith

-- ---- what is known stays so

none_before : (xs ys : List Entry) → flushes_of (xs ++ ys) ≡ 0 → flushes_of xs ≡ 0
none_before [] ys none = refl
none_before (Chunk e ∷ xs) ys none = none_before xs ys none
none_before (Flush ∷ xs) ys none = absurd (omega arith)

has_more : (xs ys : List Entry) (order : ℕ) → Has xs order → Has (xs ++ ys) order
has_more xs ys order has = record { event = has.event; there = Contains-append_left xs ys (Chunk has.event) has.there; is = has.is }

-- as the history grows
pub known_later : (before after more : List Entry) (e : Event) (f : Feed) → IsKnownOf before after e f → IsKnownOf before (after ++ more) e f
known_later before after more e (Accepted place) known = λ none. known (none_before after more none)
known_later before after more e (Repeated place) known = λ none. has_more after more e.order (known (none_before after more none))
known_later before after more e (Malformed field place) known = known
known_later before after more e (Full most) known = λ none.
    let was = known (none_before after more none) in let long = length-append after more in let full = was.0 in (omega arith, was.1)
known_later before after more e OutOfMemory known = known

-- of what was there sooner
pub known_sooner : (before seen after : List Entry) (e : Event) (f : Feed) → IsKnownOf (before ++ seen) after e f → IsKnownOf before after e f
known_sooner before seen after e (Accepted place) known = λ none has. known none (has_more before seen e.order has)
known_sooner before seen after e (Repeated place) known = known
known_sooner before seen after e (Malformed field place) known = known
known_sooner before seen after e (Full most) known = λ none. ((known none).0, (λ has. (known none).1 (has_more before seen e.order has)))
known_sooner before seen after e OutOfMemory known = known

pub AreFed_later : (before after more : List Entry) (events : List Event) (given : List Entry) (repeated : ℕ)
    → AreFed before events after given repeated → AreFed before events (after ++ more) given repeated
AreFed_later before after more events given repeated fed = record {
  answers = fed.answers;
  events_are = fed.events_are;
  given_are = fed.given_are;
  repeated_are = fed.repeated_are;
  known = All-weaker (IsKnown before after) (IsKnown before (after ++ more)) (λ a known. known_later before after more a.0 a.1 known) fed.answers fed.known;
}

pub AreFed_sooner : (before seen after : List Entry) (events : List Event) (given : List Entry) (repeated : ℕ)
    → AreFed (before ++ seen) events after given repeated → AreFed before events after given repeated
AreFed_sooner before seen after events given repeated fed = record {
  answers = fed.answers;
  events_are = fed.events_are;
  given_are = fed.given_are;
  repeated_are = fed.repeated_are;
  known = All-weaker (IsKnown (before ++ seen) after) (IsKnown before after) (λ a known. known_sooner before seen after a.0 a.1 known) fed.answers fed.known;
}

-- ---- one offer after another

module _ (before after : List Entry) where
  pub AreFed_none : AreFed before [] after [] 0
  AreFed_none = record { answers = []; events_are = refl; given_are = refl; repeated_are = refl; known = All-nil (IsKnown before after) }

  pub AreFed_one : (e : Event) (f : Feed) → IsKnownOf before after e f → AreFed before (e ∷ []) after (entry_list (fed_entry e f)) (repeats f)
  AreFed_one e f known = record {
    answers = (e, f) ∷ [];
    events_are = refl;
    given_are = sym (append-nil (entry_list (fed_entry e f)));
    repeated_are = omega arith;
    known = All-cons (IsKnown before after) (e, f) [] known (All-nil (IsKnown before after));
  }

  pub AreFed-append : (xs ys : List Event) (given given' : List Entry) (repeated repeated' : ℕ)
      → AreFed before xs after given repeated → AreFed before ys after given' repeated' → AreFed before (xs ++ ys) after (given ++ given') (repeated + repeated')
  AreFed-append xs ys given given' repeated repeated' first second = record {
    answers = first.answers ++ second.answers;
    events_are = map-append (λ (a : FeedAnswer). a.0) first.answers second.answers ∙ ap (λ z. z ++ map (λ (a : FeedAnswer). a.0) second.answers) first.events_are
        ∙ ap (λ z. xs ++ z) second.events_are;
    given_are = ap (λ z. z ++ given') first.given_are ∙ ap (λ z. accepted_of first.answers ++ z) second.given_are ∙ sym (accepted_of-append first.answers second.answers);
    repeated_are = let sum = repeated_of-append first.answers second.answers in let a = first.repeated_are in let b = second.repeated_are in omega arith;
    known = All-append (IsKnown before after) first.answers second.answers first.known second.known;
  }

  -- offers of two lists are those of the first and then those of the second
  pub AreFed_twice : (again batch : List Event) (given : List Entry) (repeated : ℕ) → AreFed before (again ++ batch) after given repeated → AreFedTwice before again batch after given repeated
  AreFed_twice again batch given repeated fed =
      let firsts = take (length again) fed.answers in
      let rest = drop (length again) fed.answers in
      let both : firsts ++ rest ≡ fed.answers = take-append-drop (length again) fed.answers in
      let event : FeedAnswer → Event = λ a. a.0 in
      record {
        first_given = accepted_of firsts;
        first_repeated = repeated_of firsts;
        first = record {
          answers = firsts;
          events_are = sym (take-map event (length again) fed.answers) ∙ ap (take (length again)) fed.events_are ∙ take-append_seam again batch;
          given_are = refl;
          repeated_are = refl;
          known = All-take (IsKnown before after) (length again) fed.answers fed.known;
        };
        second_given = accepted_of rest;
        second_repeated = repeated_of rest;
        second = record {
          answers = rest;
          events_are = sym (drop-map event (length again) fed.answers) ∙ ap (drop (length again)) fed.events_are ∙ drop-append_seam again batch;
          given_are = refl;
          repeated_are = refl;
          known = All-drop (IsKnown before after) (length again) fed.answers fed.known;
        };
        given_are = fed.given_are ∙ ap accepted_of (sym both) ∙ accepted_of-append firsts rest;
        repeated_are = fed.repeated_are ∙ ap repeated_of (sym both) ∙ repeated_of-append firsts rest;
      }
