use Rattle.std.proofs.Common.{◌≡◌, take}
use Rattle.ass_num.specs.Coverage.{box_of}
use Rattle.mask_cover.specs.Sums.{HasSum}
use Rattle.mask_cover.proofs.sum.sum_of.Given as goal

abbrev pub invariant-loop-mask : goal.invariant-loop-mask
invariant-loop-mask l = record {
  place : box_of l.sum ≡ box_of l.initial.sum;
  value : HasSum (take l.mask-index l.parts) l.sum;
}
