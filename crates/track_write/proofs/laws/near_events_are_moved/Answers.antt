use Rattle.track_write.proofs.NearLemmas.{near_moved}
use Rattle.track_write.proofs.laws.near_events_are_moved.Goals as goal

pub returns : goal.returns
returns c = near_moved
