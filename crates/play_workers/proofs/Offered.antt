-- Events that are offered one after another.
use Rattle.std.proofs.Common.{◌≡◌, ℕ, ◌+◌, List, [], ◌∷◌, ◌++◌, length, map, refl, sym, ap, subst, ◌∙◌, arith, append_assoc, append-nil, length-append, ⊎_elim, Option, Some, None, Result, Ok, Err}
use Rattle.std.specs.List.{All, Contains}
use Rattle.std.specs.Option.{option_to_list}
use Rattle.std.specs.Result.{IfOk, OnErr}
use Rattle.std.proofs.lemmas.List.{append_cancel_left, map-append}
use Rattle.std.proofs.lemmas.List.Elements.{All-nil, All-cons, All-append, All-head, All-tail, All-weaker, Contains-append_left}
use Rattle.turn_cell.specs.History.{IsPrefix, entry_list}
use Rattle.turn_cell.proofs.Passes.{Follows_same, Follows_trans}
use Rattle.ass_events.specs.declared.event.Event.{Event}
use Rattle.ass_events.specs.Histories.{Entry, Chunk, flushes_of}
use Rattle.track_history.specs.Answers.{entry_of, fed_entry}
use Rattle.track_history.specs.Calls.{IsEventFed, IsOffered, TrackView, history_of}
use Rattle.track_history.specs.declared.answers.Feed.{Feed}
use Rattle.track_history.specs.declared.answers.Feed.TheVariants.{Accepted, Repeated, Malformed, Full, OutOfMemory}
use Rattle.track_history.proofs.LawLemmas.{turn_follows}
use Rattle.play_model.proofs.Feeds.{accepted_of-append, repeated_of-append}
use Rattle.play_model.specs.Feeding.{AreFed, AreFedTwice, FeedAnswer, Has, HasMemory, IsKnown, IsKnownOf, accepted_of, repeated_of, repeats}
use Rattle.play_workers.specs.Offers.{AreEventsFed, AreOffered, HasGiven, IsFrontOffered}
use Rattle.play_workers.proofs.Answered.{history-prefix, offered_known}
use Rattle.track_history.proofs.Histories.{flushes_of-append}

-- ---- what is known stays known

fewer_flushes : (xs ys : List Entry) → IsPrefix xs ys → flushes_of ys ≡ 0 → flushes_of xs ≡ 0
fewer_flushes xs ys begins none = let sum = flushes_of-append xs begins.0 in let all = ap flushes_of begins.1 in omega (arith, sum, all, none)

has_later : (xs ys : List Entry) (order : ℕ) → IsPrefix xs ys → Has xs order → Has ys order
has_later xs ys order begins has = record {
  event = has.event;
  there = subst (λ (z : List Entry). Contains z (Chunk has.event)) begins.1 (Contains-append_left xs begins.0 (Chunk has.event) has.there);
  is = has.is;
}

known_wider : (before before' after after' : List Entry) (e : Event) (f : Feed) → IsPrefix before before' → IsPrefix after' after → IsKnownOf before' after' e f → IsKnownOf before after e f
known_wider before before' after after' e (Accepted place) p q known = λ none has. known (fewer_flushes after' after q none) (has_later before before' e.order p has)
known_wider before before' after after' e (Repeated place) p q known = λ none. has_later after' after e.order q (known (fewer_flushes after' after q none))
known_wider before before' after after' e (Malformed field place) p q known = known
known_wider before before' after after' e (Full most) p q known = λ none.
    let was = known (fewer_flushes after' after q none) in
    let many = was.0 in let sum = length-append after' q.0 in let whole = ap length q.1 in
    (omega (arith, many, sum, whole), λ has. was.1 (has_later before before' e.order p has))
known_wider before before' after after' e OutOfMemory p q known = known

all_wider : (before before' after after' : List Entry) (answers : List FeedAnswer) → IsPrefix before before' → IsPrefix after' after → All (IsKnown before' after') answers → All (IsKnown before after) answers
all_wider before before' after after' answers p q known = All-weaker (IsKnown before' after') (IsKnown before after) (λ a h. known_wider before before' after after' a.0 a.1 p q h) answers known

-- ---- two after another

prefix_same : {X : Type 0} (xs : List X) → IsPrefix xs xs
prefix_same xs = ([], append-nil xs)

fed_both : (before mid fresh : List Entry) (xs ys : List Event) (g h : List Entry) (m n : ℕ) → IsPrefix before mid → IsPrefix mid fresh → AreFed before xs mid g m → AreFed mid ys fresh h n
    → AreFed before (xs ++ ys) fresh (g ++ h) (m + n)
fed_both before mid fresh xs ys g h m n p q first second = record {
  answers = first.answers ++ second.answers;
  events_are = map-append (λ (a : FeedAnswer). a.0) first.answers second.answers ∙ ap (λ z. z ++ map (λ (a : FeedAnswer). a.0) second.answers) first.events_are ∙ ap (λ z. xs ++ z) second.events_are;
  given_are = ap (λ z. z ++ h) first.given_are ∙ ap (λ z. accepted_of first.answers ++ z) second.given_are ∙ sym (accepted_of-append first.answers second.answers);
  repeated_are = (let one = first.repeated_are in let two = second.repeated_are in let sum = repeated_of-append first.answers second.answers in omega (arith, one, two, sum));
  known = All-append (IsKnown before fresh) first.answers second.answers
      (all_wider before before fresh mid first.answers (prefix_same before) q first.known) (all_wider before mid fresh fresh second.answers p (prefix_same fresh) second.known);
}

-- behind a dead history a pass that follows has seen more
module _ (pass after : TrackView) (old before : List Entry) (begins : IsPrefix pass.seen after.seen) (first : history_of pass.seen ≡ old ++ before) where
  pub later_seen : (mid : List Entry) × (history_of after.seen ≡ old ++ mid) × IsPrefix before mid
  later_seen =
      let more = history-prefix pass.seen after.seen begins in
      (before ++ more.0, sym more.1 ∙ ap (λ z. z ++ more.0) first ∙ append_assoc old before more.0, (more.0, refl))

pub offered_both : (pass mid after : TrackView) (xs ys : List Event) (g h : List Entry) (m n : ℕ) → IsPrefix pass.seen mid.seen → IsPrefix mid.seen after.seen
    → AreOffered pass mid xs g m → AreOffered mid after ys h n → AreOffered pass after (xs ++ ys) (g ++ h) (m + n)
offered_both pass mid after xs ys g h m n p q one two = λ old before fresh dead first last.
    let between = later_seen pass mid old before p first in
    let end = later_seen mid after old between.0 q between.1 in
    let whole : end.0 ≡ fresh = append_cancel_left old end.0 fresh (sym end.1 ∙ last) in
    fed_both before between.0 fresh xs ys g h m n between.2 (subst (λ (z : List Entry). IsPrefix between.0 z) whole end.2)
    (one old before between.0 dead first between.1) (two old between.0 fresh dead between.1 last)

pub offered_none : (pass after : TrackView) → AreOffered pass after [] [] 0
offered_none pass after = λ old before fresh dead first last. record { answers = []; events_are = refl; given_are = refl; repeated_are = refl; known = All-nil (IsKnown before fresh) }

pub front_none : (pass after : TrackView) (events : List Event) → IsFrontOffered pass after events []
front_none pass after events = record { front = []; begins = (events, refl); repeated = 0; offered = offered_none pass after }

pub given_same : (pass : TrackView) (told : List Entry → Type 0) → told [] → HasGiven pass pass told
given_same pass told is = record { given = []; follows = Follows_same pass; as_told = is }

-- ---- one event

one_list : (o : Option Entry) → option_to_list o ≡ entry_list o ++ []
one_list None = refl
one_list (Some x) = refl

none_fed : (event : Event) (answer : Feed) → answer ≡ OutOfMemory → option_to_list (fed_entry event answer) ≡ []
none_fed event answer is = ap (λ f. option_to_list (fed_entry event f)) is

module _ (event : Event) (pass after : TrackView) (answer : Feed) where
  fed_one : (given : List Entry) → IsOffered event pass after answer → HasMemory answer → given ≡ option_to_list (fed_entry event answer) → AreOffered pass after (event ∷ []) given (repeats answer)
  fed_one given h memory are = λ old before fresh dead first last. record {
    answers = (event, answer) ∷ [];
    events_are = refl;
    given_are = are ∙ one_list (fed_entry event answer);
    repeated_are = omega arith;
    known = All-cons (IsKnown before fresh) (event, answer) [] (offered_known event pass after answer h memory old before fresh dead first last) (All-nil (IsKnown before fresh));
  }

  not_wanting : HasMemory answer → answer ≡ OutOfMemory → ⊥
  not_wanting memory is = subst HasMemory is memory

  -- an event that was fed, and what is told of it
  pub event_fed : {E : Type 0} (more : Result ℕ E) → IsEventFed event pass after answer → IfOk more (λ n. (n ≡ repeats answer) × HasMemory answer) → OnErr more (answer ≡ OutOfMemory)
      → HasGiven pass after (AreEventsFed pass after (event ∷ []) more)
  event_fed {E} (Ok n) fed told wanting = ⊎_elim
      (λ none. absurd (not_wanting told.1 none.0))
      (λ h. let gives = turn_follows pass after (fed_entry event answer) h.turn in
      record { given = gives.0; follows = gives.2; as_told = subst (λ (k : ℕ). AreOffered pass after (event ∷ []) (map entry_of gives.0) k) (sym told.0) (fed_one (map entry_of gives.0) h told.1 gives.1) })
      fed
  event_fed {E} (Err refused) fed told wanting = ⊎_elim
      (λ none. subst (λ (q : TrackView). HasGiven pass q (AreEventsFed pass q (event ∷ []) (Err refused))) (sym none.1) (given_same pass (AreEventsFed pass pass (event ∷ []) (Err refused)) (front_none pass pass (event ∷ []))))
      (λ h. let gives = turn_follows pass after (fed_entry event answer) h.turn in
      record { given = gives.0; follows = gives.2; as_told = subst (IsFrontOffered pass after (event ∷ [])) (sym (gives.1 ∙ none_fed event answer wanting)) (front_none pass after (event ∷ [])) })
      fed

-- ---- lines in order

-- all of some events were fed, and then those of one line more
module _ (pass mid after : TrackView) (xs ys : List Event) (m : ℕ) (so_far : HasGiven pass mid (λ given. AreOffered pass mid xs given m)) where
  pub fed_more : (n : ℕ) → HasGiven mid after (λ given. AreOffered mid after ys given n) → HasGiven pass after (λ given. AreOffered pass after (xs ++ ys) given (m + n))
  fed_more n next = record {
    given = so_far.given ++ next.given;
    follows = Follows_trans pass mid after so_far.given next.given so_far.follows next.follows;
    as_told = subst (λ (z : List Entry). AreOffered pass after (xs ++ ys) z (m + n)) (sym (map-append entry_of so_far.given next.given))
        (offered_both pass mid after xs ys (map entry_of so_far.given) (map entry_of next.given) m n so_far.follows.seen next.follows.seen so_far.as_told next.as_told);
  }

  pub fed_front : (all : List Event) → IsPrefix (xs ++ ys) all → HasGiven mid after (IsFrontOffered mid after ys) → HasGiven pass after (IsFrontOffered pass after all)
  fed_front all within next =
      let front = next.as_told in
      record {
        given = so_far.given ++ next.given;
        follows = Follows_trans pass mid after so_far.given next.given so_far.follows next.follows;
        as_told = record {
          front = xs ++ front.front;
          begins = (
            front.begins.0 ++ within.0,
            append_assoc xs front.front (front.begins.0 ++ within.0) ∙ ap (λ z. xs ++ z) (sym (append_assoc front.front front.begins.0 within.0) ∙ ap (λ z. z ++ within.0) front.begins.1)
                ∙ sym (append_assoc xs ys within.0) ∙ within.1,
          );
          repeated = m + front.repeated;
          offered = subst (λ (z : List Entry). AreOffered pass after (xs ++ front.front) z (m + front.repeated)) (sym (map-append entry_of so_far.given next.given))
              (offered_both pass mid after xs front.front (map entry_of so_far.given) (map entry_of next.given) m front.repeated so_far.follows.seen next.follows.seen so_far.as_told front.offered);
        };
      }

-- ---- first what is offered once more, and then the batch

module _ {X : Type 0} (P : X → Type 0) where
  all_left : (xs ys : List X) → All P (xs ++ ys) → All P xs
  all_left [] ys h = All-nil P
  all_left (x ∷ xs) ys h = All-cons P x xs (All-head P x (xs ++ ys) h) (all_left xs ys (All-tail P x (xs ++ ys) h))

  all_right : (xs ys : List X) → All P (xs ++ ys) → All P ys
  all_right [] ys h = h
  all_right (x ∷ xs) ys h = all_right xs ys (All-tail P x (xs ++ ys) h)

answers_split : (answers : List FeedAnswer) (xs ys : List Event) → map (λ (a : FeedAnswer). a.0) answers ≡ xs ++ ys
    → (one : List FeedAnswer) × (two : List FeedAnswer) × (answers ≡ one ++ two) × (map (λ (a : FeedAnswer). a.0) one ≡ xs) × (map (λ (a : FeedAnswer). a.0) two ≡ ys)
answers_split answers [] ys e = ([], answers, refl, refl, e)
answers_split [] (x ∷ xs) ys e = absurd (let none : [] ≡ x ∷ (xs ++ ys) = e in cc)
answers_split (a ∷ answers) (x ∷ xs) ys e =
    let pair : a.0 ∷ map (λ (a : FeedAnswer). a.0) answers ≡ x ∷ (xs ++ ys) = e in
    let here : a.0 ≡ x = cc in let rest : map (λ (a : FeedAnswer). a.0) answers ≡ xs ++ ys = cc in
    let cut = answers_split answers xs ys rest in
    (a ∷ cut.0, cut.1, ap (λ z. a ∷ z) cut.2, ap (λ z. z ∷ map (λ (a : FeedAnswer). a.0) cut.0) here ∙ ap (λ z. x ∷ z) cut.3, cut.4)

pub fed_twice : (before : List Entry) (again batch : List Event) (fresh given : List Entry) (repeated : ℕ) → AreFed before (again ++ batch) fresh given repeated → AreFedTwice before again batch fresh given repeated
fed_twice before again batch fresh given repeated fed =
    let cut = answers_split fed.answers again batch fed.events_are in
    let one = cut.0 in let two = cut.1 in
    let known : All (IsKnown before fresh) (one ++ two) = subst (All (IsKnown before fresh)) cut.2 fed.known in
    record {
      first_given = accepted_of one;
      first_repeated = repeated_of one;
      first = record { answers = one; events_are = cut.3; given_are = refl; repeated_are = refl; known = all_left (IsKnown before fresh) one two known };
      second_given = accepted_of two;
      second_repeated = repeated_of two;
      second = record { answers = two; events_are = cut.4; given_are = refl; repeated_are = refl; known = all_right (IsKnown before fresh) one two known };
      given_are = fed.given_are ∙ ap accepted_of cut.2 ∙ accepted_of-append one two;
      repeated_are = fed.repeated_are ∙ ap repeated_of cut.2 ∙ repeated_of-append one two;
    }
