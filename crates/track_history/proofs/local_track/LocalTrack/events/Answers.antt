use Rattle.std.proofs.Common.{sym, ap, ◌∙◌, subst, List, map}
use Rattle.std.specs.Arc.{arc_value}
use Rattle.std.specs.List.{All}
use Rattle.ass_events.specs.Ranges.{IsEvent}
use Rattle.ass_events.specs.declared.event.Event.{Event}
use Rattle.track_history.specs.LocalTracks.{LocalTrackView}
use Rattle.track_history.proofs.LocalTrackLemmas.{live_events}
use Rattle.track_history.proofs.local_track.LocalTrack.events.Goals as goal

pub returns-clause-events : goal.returns-clause-events
returns-clause-events c = ap (map arc_value) c.as_slice.ensures.value ∙ ap (λ (t : LocalTrackView). t.events) c.self.view_is

pub returns-clause-each : goal.returns-clause-each
returns-clause-each c = subst (λ (z : List Event). All IsEvent z) (sym (ap (map arc_value) c.as_slice.ensures.value)) (live_events c.self.inside.live c.self.invariant.history c.self.invariant.tells)
