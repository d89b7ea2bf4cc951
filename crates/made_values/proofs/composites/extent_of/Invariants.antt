use Rattle.std.proofs.Common.{take, map}
use Rattle.std.specs.Arc.{arc_value}
use Rattle.mask_cover.specs.Sums.{IsBoxOf}
use Rattle.made_values.specs.Parts.{placed_masks}
use Rattle.made_values.proofs.composites.extent_of.Given as goal

abbrev pub invariant-loop-k : goal.invariant-loop-k
invariant-loop-k l = IsBoxOf (take l.k (placed_masks l.parts (map arc_value l.masks))) l.extent
