use Rattle.std.proofs.Common.{◌≡◌, ◌-◌}
use Rattle.std.specs.List.{flat_map, range_with_len}
use Rattle.still_images.specs.Boxes.{cropped_row}
use Rattle.still_images.proofs.crop.cropped.Given as goal

abbrev pub invariant-loop-y : goal.invariant-loop-y
invariant-loop-y l = l.bytes.items ≡ flat_map (cropped_row l.depth l.size.w l.part l.pixels) (range_with_len l.part.y1 (l.y - l.part.y1))
