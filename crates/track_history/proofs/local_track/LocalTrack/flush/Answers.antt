use Rattle.track_history.proofs.LocalTrackLemmas.{flushed_alone, still_flushed}
use Rattle.track_history.proofs.local_track.LocalTrack.flush.Goals as goal

pub invariant_of-self : goal.invariant_of-self
invariant_of-self c = still_flushed c.self.inside.live _ c.flush.result c.self.invariant c.flush.ensures.sound c.flush.ensures.history

pub returns : goal.returns
returns c = flushed_alone _ c.self.inside.live _ c.flush.result c.self.view_is c.self.invariant c.flush.ensures.answer c.flush.ensures.history
