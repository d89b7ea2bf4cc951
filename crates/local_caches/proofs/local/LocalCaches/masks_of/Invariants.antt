use Rattle.std.proofs.Common.{◌≡◌, map, take}
use Rattle.std.specs.Arc.{arc_value}
use Rattle.made_values.specs.Parts.{masks_of}
use Rattle.local_caches.proofs.local.LocalCaches.masks_of.Given as goal

abbrev pub invariant-loop-part : goal.invariant-loop-part
invariant-loop-part l = record {
  value : map arc_value l.masks.items ≡ masks_of l.fn.self.fonts (take l.part-index l.parts);
  fonts : l.self.fonts ≡ l.fn.self.fonts;
  budget : l.self.budget ≡ l.fn.self.budget;
}
