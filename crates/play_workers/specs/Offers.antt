-- Public: events that are offered one after another.
use Rattle.std.specs.Prelude.{◌≡◌, ℕ, List, [], ◌++◌, map, Result, Ok, Err}
use Rattle.ass_events.specs.Histories.{Entry, live}
use Rattle.ass_events.specs.declared.event.Event.{Event}
use Rattle.track_history.specs.Answers.{entry_of}
use Rattle.track_history.specs.Calls.{TrackView, history_of}
use Rattle.track_history.specs.declared.answers.TrackEntry.{TrackEntry}
use Rattle.turn_cell.specs.History.{IsPrefix}
use Rattle.turn_cell.specs.Passes.{Follows}
use Rattle.play_model.specs.Feeding.{AreFed}

-- These events were offered, of which these were accepted and so many were there already, whatever dead history the pass found before.
abbrev pub AreOffered : TrackView → TrackView → List Event → List Entry → ℕ → Type 0
AreOffered pass after events given repeated =
    (old before fresh : List Entry) → live old ≡ [] → history_of pass.seen ≡ old ++ before → history_of after.seen ≡ old ++ fresh
    → AreFed before events fresh given repeated

-- Memory was wanting, and the first ones of the events were offered.
pub record IsFrontOffered (pass after : TrackView) (events : List Event) (given : List Entry) : Type 0 where
  pub front : List Event
  pub begins : IsPrefix front events
  pub repeated : ℕ
  pub offered : AreOffered pass after front given repeated

-- All of the events were offered, or for lack of memory the first ones.
abbrev pub AreEventsFed : {E : Type 0} → TrackView → TrackView → List Event → Result ℕ E → List Entry → Type 0
AreEventsFed pass after events (Ok repeated) given = AreOffered pass after events given repeated
AreEventsFed pass after events (Err refused) given = IsFrontOffered pass after events given

-- What a pass gave of a track, and that it is as told.
pub record HasGiven (pass after : TrackView) (told : List Entry → Type 0) : Type 0 where
  pub given : List TrackEntry
  pub follows : Follows pass after given
  pub as_told : told (map entry_of given)
