-- Public: what the track of one thread is to its callers.
use Rattle.std.specs.Prelude.{◌≡◌, ℕ, List, [], length}
use Rattle.ass_events.specs.Histories.{Entry, IsHistory, live, flushes_of}
use Rattle.ass_events.specs.declared.event.Event.{Event}
use Rattle.track_history.specs.ShortEvents.{HaveShortEvents}
use Rattle.track_history.specs.Tellings.{IsSound, Tells, events_of}
use Rattle.track_history.specs.declared.live_events.LiveEvents.{LiveEvents}

-- The live events in the order in which they were accepted, and how many entries and how many flushes the track's history has.
pub record LocalTrackView : Type 0 where
  pub events : List Event
  pub entries : ℕ
  pub flushes : ℕ

-- a track that nothing was fed to
abbrev pub new_track : LocalTrackView
new_track = record { events = []; entries = 0; flushes = 0 }

-- The track is that of some legal history, whose events are short.
pub record IsTrackOf (track : LocalTrackView) : Type 0 where
  pub history : List Entry
  pub events : track.events ≡ live history
  pub entries : track.entries ≡ length history
  pub flushes : track.flushes ≡ flushes_of history
  pub legal : IsHistory history
  pub short : HaveShortEvents history

-- ---- as it is kept

abbrev pub track_of : LiveEvents → LocalTrackView
track_of kept = record { events = events_of kept; entries = kept.entries; flushes = kept.flushes }

-- What is kept is sound, and tells of some history.
pub record HasHistory (kept : LiveEvents) : Type 0 where
  pub sound : IsSound kept
  pub history : List Entry
  pub tells : Tells kept history
