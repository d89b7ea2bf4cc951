use Rattle.std.proofs.Common.{◌≡◌, ◌*◌, length}
use Rattle.kernel_bench.proofs.alpha.measure_mask.Given as goal

abbrev pub invariant-loop : goal.invariant-loop
invariant-loop l = length l.bytes.items ≡ 4 * (l.size.h * l.size.w)
