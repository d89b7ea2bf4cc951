use Rattle.std.proofs.Common.{◌-ℤ◌}
use Rattle.std.specs.Int.RustNames.{unsigned_abs}
use Rattle.line_layout.proofs.LimitLemmas.{Halving}
use Rattle.line_layout.proofs.breaks.least_limit.Given as goal

abbrev pub invariant-loop-low : goal.invariant-loop-low
invariant-loop-low l = Halving l.widths l.spaces l.max l.count l.low l.high

abbrev pub decreases-loop-low : goal.decreases-loop-low
decreases-loop-low l = unsigned_abs (l.high -ℤ l.low)
