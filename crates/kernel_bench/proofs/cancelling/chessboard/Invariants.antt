use Rattle.ass_num.specs.Limits.{IsOutline}
use Rattle.kernel_bench.proofs.cancelling.chessboard.Given as goal

abbrev pub invariant-loop-k : goal.invariant-loop-k
invariant-loop-k l = IsOutline l.rings
