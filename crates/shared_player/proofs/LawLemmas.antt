-- What a seat has seen only grows.
use Rattle.std.proofs.Common.{◌≡◌, ℕ, ◌+◌, List, None, Option, Some, Ok, Err, Result, subst, sym, ap, ⊎_elim, arith}
use Rattle.ass_events.specs.Histories.{Entry}
use Rattle.ass_events.specs.declared.event.Event.{Event}
use Rattle.ass_num.specs.declared.memory.OutOfMemory.{OutOfMemory}
use Rattle.track_history.specs.Calls.{IsEventFed, IsTurn, TrackView}
use Rattle.track_history.specs.declared.answers.Feed.{Feed}
use Rattle.track_history.specs.declared.answers.LookRefusal.{LookRefusal}
use Rattle.track_history.specs.declared.answers.LookRefusal.TheVariants as look
use Rattle.track_history.specs.declared.answers.TurnOut.{TurnOut}
use Rattle.turn_cell.specs.History.{IsPrefix}
use Rattle.turn_cell.proofs.Histories.{IsPrefix_same}
use Rattle.shared_player.specs.Tries.{IsLineOffered, IsLinePassed, IsLineTried, IsLookRefused, IsLostTry}

pub turn_grows : (pass after : TrackView) (entry : Option Entry) → IsTurn pass after entry → IsPrefix pass.seen after.seen
turn_grows pass after entry turn = turn.turn.follows.seen

same_grows : (pass after : TrackView) → after.seen ≡ pass.seen → IsPrefix pass.seen after.seen
same_grows pass after e = subst (IsPrefix pass.seen) (sym e) (IsPrefix_same pass.seen)

pub lost_grows : (pass after : TrackView) → IsLostTry pass after → IsPrefix pass.seen after.seen
lost_grows pass after lost = same_grows pass after (ap (λ (p : TrackView). p.seen) lost)

event_grows : (event : Event) (pass after : TrackView) (answer : Feed) → IsEventFed event pass after answer → IsPrefix pass.seen after.seen
event_grows event pass after answer fed = ⊎_elim (λ none. same_grows pass after (ap (λ (p : TrackView). p.seen) none.1)) (λ offered. turn_grows pass after _ offered.turn) fed

line_grows : (count : ℕ) (event : Event) (pass after : TrackView) (answer : Result (Result ℕ OutOfMemory) TurnOut) → IsLineOffered count event pass after answer → IsPrefix pass.seen after.seen
line_grows count event pass after (Ok (Ok told)) h = turn_grows pass after _ h.1.2.turn
line_grows count event pass after (Ok (Err refused)) h = event_grows event pass after _ h
line_grows count event pass after (Err refused) h = lost_grows pass after h

passed_grows : (count : ℕ) (pass after : TrackView) (answer : Result (Result ℕ OutOfMemory) TurnOut) → IsLinePassed count pass after answer → IsPrefix pass.seen after.seen
passed_grows count pass after (Ok (Ok told)) h = same_grows pass after (ap (λ (p : TrackView). p.seen) h.1)
passed_grows count pass after (Ok (Err refused)) h = same_grows pass after (ap (λ (p : TrackView). p.seen) h)
passed_grows count pass after (Err refused) h = absurd h

pub tried_grows : (count : ℕ) (event : Option Event) (pass after : TrackView) (answer : Result (Result ℕ OutOfMemory) TurnOut) → IsLineTried count event pass after answer → IsPrefix pass.seen after.seen
tried_grows count (Some event) pass after answer h = line_grows count event pass after answer h
tried_grows count None pass after answer h = passed_grows count pass after answer h

pub refused_grows : (pass after : TrackView) (refusal : LookRefusal) → IsLookRefused pass after refusal → IsPrefix pass.seen after.seen
refused_grows pass after look.TurnOut h = lost_grows pass after h
refused_grows pass after look.OutOfMemory h = turn_grows pass after None h
