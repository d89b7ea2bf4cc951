use Rattle.std.proofs.Common.{sym, ap, ◌∙◌}
use Rattle.track_history.specs.LocalTracks.{LocalTrackView}
use Rattle.track_history.proofs.local_track.LocalTrack.entries.Goals as goal

pub returns : goal.returns
returns c = c.entries.ensures c.self.invariant.history c.self.invariant.tells ∙ sym c.self.invariant.tells.entries ∙ ap (λ (t : LocalTrackView). t.entries) c.self.view_is
