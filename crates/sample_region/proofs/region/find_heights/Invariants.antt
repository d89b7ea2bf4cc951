use Rattle.std.proofs.Common.{All, take, ◌≤ℤ◌, pos, neg_ℤ}
use Rattle.ass_num.specs.Limits.{max_coordinate}
use Rattle.sample_region.specs.Heights.{IsHeightBetween}
use Rattle.sample_region.proofs.region.find_heights.Given as goal

abbrev pub invariant-loop-k : goal.invariant-loop-k
invariant-loop-k l = record {
  between : All (All (IsHeightBetween l.heights.low l.heights.high)) (take l.k l.outline.rings);
  low : neg_ℤ (pos max_coordinate) ≤ℤ l.heights.low;
  high : l.heights.high ≤ℤ pos max_coordinate;
}
