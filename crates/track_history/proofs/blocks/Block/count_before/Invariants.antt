use Rattle.std.proofs.Common.{◌-◌}
use Rattle.track_history.proofs.Indexes.{IsSearched}
use Rattle.track_history.proofs.blocks.Block.count_before.Given as goal

abbrev pub invariant-search : goal.invariant-search
invariant-search l = IsSearched l.self.spans.items l.span l.low l.high

abbrev pub decreases-search : goal.decreases-search
decreases-search l = l.high - l.low
