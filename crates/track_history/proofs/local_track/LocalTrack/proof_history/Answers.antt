use Rattle.track_history.proofs.LocalTrackLemmas.{told_track}
use Rattle.track_history.proofs.local_track.LocalTrack.proof_history.Goals as goal

pub returns : goal.returns
returns c = told_track _ c.self.inside.live c.self.view_is c.self.invariant
