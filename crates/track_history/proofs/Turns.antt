-- Turns of a track.
use Rattle.std.proofs.Common.{◌≡◌, ℕ, [], ◌∷◌, refl, sym, ap, subst, ◌∙◌, Option, Some, None}
use Rattle.std.specs.Prelude.{option_map}
use Rattle.std.proofs.lemmas.List.{map-append}
use Rattle.turn_cell.specs.History.{History, with_entry}
use Rattle.turn_cell.specs.Passes.{TurnView, IsTurnAfterTries}
use Rattle.turn_cell.proofs.Passes.{Follows_give}
use Rattle.ass_events.specs.declared.event.Event.{Event}
use Rattle.ass_events.specs.Histories.{Entry, IsHistory}
use Rattle.track_history.specs.declared.answers.TrackEntry.{TrackEntry}
use Rattle.track_history.specs.declared.answers.Feed.{Feed}
use Rattle.track_history.specs.declared.answers.Flushed.{Flushed}
use Rattle.track_history.specs.declared.live_events.LiveEvents.{LiveEvents}
use Rattle.track_history.specs.ShortEvents.{HaveShortEvents}
use Rattle.track_history.specs.Answers.{IsAcceptedElse, IsFeedAnswer, entry_of, extended, fed_entry, flush_answer, flushed_entry}
use Rattle.track_history.specs.Calls.{TrackView, IsTurn, IsOffered, IsFlushed, history_of}
use Rattle.track_history.proofs.Histories.{fed_after, flushed_after}

pub history_of-with_entry : (list : History TrackEntry) (n : ℕ) (given : Option TrackEntry) → history_of (with_entry list n given) ≡ extended (history_of list) (option_map entry_of given)
history_of-with_entry list n None = refl
history_of-with_entry list n (Some x) = map-append (λ (pair : ℕ × TrackEntry). entry_of pair.1) list ((n, x) ∷ [])

abbrev pub TrackTurn : Type 0
TrackTurn = TurnView LiveEvents TrackEntry (Unit {0})

abbrev pub given_back : TrackTurn → Option TrackEntry → TrackView
given_back turn given = record turn.pass { seen = with_entry turn.list turn.pass.number given }

module _ (stands : Unit {0} → LiveEvents → History TrackEntry → Type 0) (tag : Unit {0}) (p : TrackView) (turn : TrackTurn) (q : TrackView) (given : Option TrackEntry)
    (taken : IsTurnAfterTries stands tag p turn) (back : q ≡ given_back turn given) where
  number : turn.pass.number ≡ p.number
  number = ap (λ (z : TrackView). z.number) taken.turn_of.taken

  seen_then : (entry : Option Entry) → option_map entry_of given ≡ entry → history_of q.seen ≡ extended (history_of turn.list) entry
  seen_then entry is = ap (λ (z : TrackView). history_of z.seen) back ∙ (history_of-with_entry turn.list turn.pass.number given ∙ ap (extended (history_of turn.list)) is)

  pub turn_given : (entry : Option Entry) → option_map entry_of given ≡ entry → IsHistory (extended (history_of turn.list) entry) → HaveShortEvents (extended (history_of turn.list) entry) → IsTurn p q entry
  turn_given entry is legal short = record {
    given = given;
    is_entry = is;
    turn = record {
      list = turn.list;
      extends = taken.turn_of.list;
      seen = ap (λ (z : TrackView). z.seen) back ∙ ap (λ (n : ℕ). with_entry turn.list n given) number;
      turns = ap (λ (z : TrackView). z.turns) back ∙ ap (λ (z : TrackView). z.turns) taken.turn_of.taken;
      follows = Follows_give stands tag p turn q given taken back;
    };
    legal = subst IsHistory (sym (seen_then entry is)) legal;
    short = subst HaveShortEvents (sym (seen_then entry is)) short;
  }

  pub offered : (event : Event) (answer : Feed) → option_map entry_of given ≡ fed_entry event answer → IsHistory (extended (history_of turn.list) (fed_entry event answer)) → HaveShortEvents (extended (history_of turn.list) (fed_entry event answer))
      → IsFeedAnswer (history_of turn.list) event answer → IsAcceptedElse (history_of turn.list) event answer → IsOffered event p q answer
  unfolding turn_given
  offered event answer is legal short answered wanting = record {
    turn = turn_given (fed_entry event answer) is legal short;
    answered = answered;
    wanting = wanting;
    history = λ fine. seen_then (fed_entry event answer) is ∙ (ap (λ a. extended (history_of turn.list) (fed_entry event a)) (answered fine) ∙ fed_after (history_of turn.list) event);
  }

  pub flushed_turn : (answer : Flushed) → option_map entry_of given ≡ flushed_entry answer → IsHistory (extended (history_of turn.list) (flushed_entry answer)) → HaveShortEvents (extended (history_of turn.list) (flushed_entry answer))
      → answer ≡ flush_answer (history_of turn.list) → IsFlushed p q answer
  unfolding turn_given
  flushed_turn answer is legal short answered = record {
    turn = turn_given (flushed_entry answer) is legal short;
    answered = answered;
    history = seen_then (flushed_entry answer) is ∙ (ap (λ a. extended (history_of turn.list) (flushed_entry a)) answered ∙ flushed_after (history_of turn.list));
  }
