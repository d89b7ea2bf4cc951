use Rattle.std.proofs.Common.{[]}
use Rattle.track_history.proofs.LocalTrackLemmas.{nothing_told}
use Rattle.track_history.proofs.local_track.LocalTrack.new.Goals as goal

pub invariant_of-result : goal.invariant_of-result
invariant_of-result c = record { sound = c.new-live.ensures.sound; history = []; tells = c.new-live.ensures.history }

pub returns : goal.returns
returns c = nothing_told _ c.new-live.ensures.history
