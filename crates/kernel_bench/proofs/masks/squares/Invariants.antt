use Rattle.std.proofs.Common.{All}
use Rattle.mask_cover.specs.Sums.{IsPlaceableMask}
use Rattle.kernel_bench.proofs.masks.squares.Given as goal

abbrev pub invariant-loop-k : goal.invariant-loop-k
invariant-loop-k l = All IsPlaceableMask l.parts.items
