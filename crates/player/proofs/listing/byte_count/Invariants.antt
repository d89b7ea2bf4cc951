use Rattle.std.proofs.Common.{◌≡◌, take}
use Rattle.player.specs.Players.{mask_bytes}
use Rattle.player.proofs.listing.byte_count.Given as goal

abbrev pub invariant-loop-image : goal.invariant-loop-image
invariant-loop-image l = l.count ≡ mask_bytes (take l.image-index l.images)
