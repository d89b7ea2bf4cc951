use Rattle.std.proofs.Common.{take}
use Rattle.mask_cover.specs.Sums.{IsBoxOf}
use Rattle.mask_cover.proofs.sum.extent_of.Given as goal

abbrev pub invariant-loop-mask : goal.invariant-loop-mask
invariant-loop-mask l = IsBoxOf (take l.mask-index l.parts) l.extent
