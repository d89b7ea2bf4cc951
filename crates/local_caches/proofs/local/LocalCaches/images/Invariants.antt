use Rattle.std.proofs.Common.{◌≡◌, map, take}
use Rattle.std.specs.Arc.{arc_value}
use Rattle.blend.specs.Images.{image_value}
use Rattle.mask_keys.specs.Pictures.{image_of_draw}
use Rattle.local_caches.proofs.local.LocalCaches.images.Given as goal

abbrev pub invariant-loop-draw : goal.invariant-loop-draw
invariant-loop-draw l = record {
  images : map (image_value arc_value) l.images.items ≡ map (image_of_draw l.fn.self.fonts) (take l.draw-index l.draws);
  fonts : l.self.fonts ≡ l.fn.self.fonts;
  budget : l.self.budget ≡ l.fn.self.budget;
}
