use Rattle.std.proofs.Common.{All, take, ◌≤ℤ◌, pos, neg_ℤ}
use Rattle.ass_num.specs.Limits.{max_coordinate}
use Rattle.sample_region.specs.Heights.{IsHeightBetween}
use Rattle.sample_region.proofs.region.widened.Given as goal

abbrev pub invariant-loop-p : goal.invariant-loop-p
invariant-loop-p l = record {
  between : All (IsHeightBetween l.around.low l.around.high) (take l.p-index l.ring);
  lower : l.around.low ≤ℤ l.initial.around.low;
  higher : l.initial.around.high ≤ℤ l.around.high;
  low : neg_ℤ (pos max_coordinate) ≤ℤ l.around.low;
  high : l.around.high ≤ℤ pos max_coordinate;
}
