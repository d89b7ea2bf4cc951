use Rattle.track_history.proofs.Bounds.{AreWalked}
use Rattle.near_events.specs.Walks.{walk_of}
use Rattle.track_history.proofs.near_index.NearIndex.walk.Given as goal

abbrev pub invariant-down : goal.invariant-down
invariant-down l = AreWalked l.t l.self.blocks.items l.rest (walk_of l.walk)

abbrev pub decreases-down : goal.decreases-down
decreases-down l = l.rest
