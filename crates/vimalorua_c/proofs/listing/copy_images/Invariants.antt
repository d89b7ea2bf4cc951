use Rattle.std.proofs.Common.{◌≡◌, length, take}
use Rattle.std.specs.List.{flat_map}
use Rattle.plain_images.specs.declared.plain.PlainImage.{PlainImage}
use Rattle.player.specs.Players.{mask_bytes}
use Rattle.vimalorua_c.specs.Calls.{all_numbers}
use Rattle.vimalorua_c.proofs.listing.copy_images.Given as goal

abbrev pub invariant-loop-i : goal.invariant-loop-i
invariant-loop-i l = record {
  count : length l.numbers ≡ length l.images;
  bytes : length l.masks ≡ mask_bytes l.images;
  place : l.at ≡ mask_bytes (take l.i l.images);
  numbers_are : take l.i l.numbers ≡ all_numbers (take l.i l.images) 0;
  masks_are : take l.at l.masks ≡ flat_map (λ (image : PlainImage). image.mask.bytes) (take l.i l.images);
}
