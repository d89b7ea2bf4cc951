use Rattle.std.proofs.Common.{◌≡◌, map, take}
use Rattle.mask_keys.specs.Pictures.{image_of_draw}
use Rattle.plain_images.specs.PlainImages.{ArePlainImages}
use Rattle.player.proofs.listing.images_of_plan.Given as goal

abbrev pub invariant-loop-draw : goal.invariant-loop-draw
invariant-loop-draw l = record {
  images : ArePlainImages l.size (map (image_of_draw l.fn.local.fonts) (take l.draw-index l.plan.draws)) l.images.items;
  fonts : l.local.fonts ≡ l.fn.local.fonts;
  budget : l.local.budget ≡ l.fn.local.budget;
}
