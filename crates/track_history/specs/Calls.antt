-- Public: what the calls of a track do with a pass.
use Rattle.std.specs.Prelude.{◌≡◌, ◌≢◌, ◌⊎◌, ℕ, ℤ, ◌+◌, List, map, Option, None, option_map, Result, Ok, Err}
use Rattle.turn_cell.specs.History.{History}
use Rattle.turn_cell.specs.Passes.{PassView, TakesTurn}
use Rattle.ass_events.specs.declared.event.Event.{Event}
use Rattle.ass_events.specs.declared.event.ChunkRefusal.{ChunkRefusal}
use Rattle.ass_events.specs.Events.{event_of}
use Rattle.ass_events.specs.Histories.{Entry, IsHistory}
use Rattle.ass_events.specs.Histories as rule
use Rattle.track_history.specs.declared.answers.TrackEntry.{TrackEntry}
use Rattle.track_history.specs.declared.answers.Feed.{Feed}
use Rattle.track_history.specs.declared.answers.Feed.TheVariants.{OutOfMemory}
use Rattle.track_history.specs.declared.answers.Flushed.{Flushed}
use Rattle.track_history.specs.declared.answers.LookRefusal.{LookRefusal}
use Rattle.track_history.specs.declared.answers.LookRefusal.TheVariants as look
use Rattle.track_history.specs.declared.live_events.LiveEvents.{LiveEvents}
use Rattle.track_history.specs.declared.scene.Scene.{Scene}
use Rattle.track_history.specs.ShortEvents.{HaveShortEvents}
use Rattle.track_history.specs.Answers.{IsAcceptedElse, IsFeedAnswer, IsSceneOf, entry_of, fed_entry, flush_answer, flushed_entry, refused_answer}
use Rattle.track_history.specs.Tellings.{IsSound, Tells}

-- a pass of a track
abbrev pub TrackView : Type 0
TrackView = PassView TrackEntry (Unit {0})

-- the entries, whoever gave them
abbrev pub history_of : History TrackEntry → List Entry
history_of list = map (λ pair. entry_of pair.1) list

-- What is kept stands for the list of a turn.
pub record StandsFor (kept : LiveEvents) (list : History TrackEntry) : Type 0 where
  pub sound : IsSound kept
  pub tells : Tells kept (history_of list)

-- The pass took one turn and gave it back with this entry, if any. What it has seen then is a legal history of short events.
pub record IsTurn (pass after : TrackView) (entry : Option Entry) : Type 0 where
  pub given : Option TrackEntry
  pub is_entry : option_map entry_of given ≡ entry
  pub turn : TakesTurn pass after given
  pub legal : IsHistory (history_of after.seen)
  pub short : HaveShortEvents (history_of after.seen)

-- The event was offered at a turn, which found `turn.turn.list`. Where memory ran out before it, no turn was taken; at it, the event would have been accepted.
pub record IsOffered (event : Event) (pass after : TrackView) (answer : Feed) : Type 0 where
  pub turn : IsTurn pass after (fed_entry event answer)
  pub answered : IsFeedAnswer (history_of turn.turn.list) event answer
  pub wanting : IsAcceptedElse (history_of turn.turn.list) event answer
  pub history : answer ≢ OutOfMemory → history_of after.seen ≡ rule.after (history_of turn.turn.list) event

abbrev pub IsEventFed : Event → TrackView → TrackView → Feed → Type 0
IsEventFed event pass after answer = ((answer ≡ OutOfMemory) × (after ≡ pass)) ⊎ IsOffered event pass after answer

abbrev pub IsFedBy : Result Event ChunkRefusal → TrackView → TrackView → Feed → Type 0
IsFedBy (Ok event) pass after answer = IsEventFed event pass after answer
IsFedBy (Err refusal) pass after answer = (after ≡ pass) × ((answer ≡ OutOfMemory) ⊎ (answer ≡ refused_answer refusal))

-- A chunk that gives an event is offered. One that gives none is refused as `read_chunk` refuses it, and takes no turn.
abbrev pub IsFed : List ℕ → ℤ → ℤ → TrackView → TrackView → Feed → Type 0
IsFed bytes start duration pass after answer = IsFedBy (event_of bytes start duration) pass after answer

pub record IsFlushed (pass after : TrackView) (answer : Flushed) : Type 0 where
  pub turn : IsTurn pass after (flushed_entry answer)
  pub answered : answer ≡ flush_answer (history_of turn.turn.list)
  pub history : history_of after.seen ≡ rule.flushed (history_of turn.turn.list)

-- A try took the turn and gave it back, or it was lost, since the turn is out.
abbrev pub IsTriedLook : TrackView → ℤ → TrackView → Result Scene LookRefusal → Type 0
IsTriedLook pass t after (Ok scene) = IsTurn pass after None × IsSceneOf (history_of after.seen) t scene
IsTriedLook pass t after (Err look.TurnOut) = after ≡ record pass { lost = pass.lost + 1 }
IsTriedLook pass t after (Err look.OutOfMemory) = IsTurn pass after None
