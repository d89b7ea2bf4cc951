use Rattle.std.proofs.Common.{◌-◌}
use Rattle.track_history.proofs.Indexes.{AreSearched}
use Rattle.track_history.proofs.near_index.NearIndex.block_of.Given as goal

abbrev pub invariant-search : goal.invariant-search
invariant-search l = AreSearched l.self.blocks.items l.span l.low l.high

abbrev pub decreases-search : goal.decreases-search
decreases-search l = l.high - l.low
