use Rattle.std.proofs.Common.{◌≡◌, take, map}
use Rattle.std.specs.Arc.{arc_value}
use Rattle.ass_num.specs.Coverage.{box_of}
use Rattle.mask_cover.specs.Sums.{HasSum}
use Rattle.made_values.specs.Parts.{placed_masks}
use Rattle.made_values.proofs.composites.sum_of_parts.Given as goal

abbrev pub invariant-loop-k : goal.invariant-loop-k
invariant-loop-k l = record {
  place : box_of l.sum ≡ box_of l.initial.sum;
  value : HasSum (take l.k (placed_masks l.parts (map arc_value l.masks))) l.sum;
}
