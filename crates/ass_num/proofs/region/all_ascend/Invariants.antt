use Rattle.std.proofs.Common.{◌≡◌, drop}
use Rattle.ass_num.specs.Regions.{all_ascend}
use Rattle.ass_num.proofs.region.all_ascend.Given as goal

abbrev pub invariant-loop-k : goal.invariant-loop-k
invariant-loop-k l = all_ascend l.rows ≡ all_ascend (drop l.k l.rows)
