use Rattle.std.proofs.Common.{◌≡◌, map, take}
use Rattle.std.specs.Arc.{arc_value}
use Rattle.made_values.specs.Parts.{masks_of}
use Rattle.world_core.proofs.world_values.masks_made.Given as goal

abbrev pub invariant-loop-part : goal.invariant-loop-part
invariant-loop-part l = map arc_value l.masks.items ≡ masks_of l.fonts.fonts (take l.part-index l.parts)
