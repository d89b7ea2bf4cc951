-- Public: keys that are equal are identical.
use Rattle.std.proofs.Common.{◌≡◌, true, ap}
use Rattle.mask_keys.proofs.Equal.{composite_same, mask_same, region_same}
use Rattle.world_core.specs.declared.world_keys.WorldKey.{WorldKey}
use Rattle.world_core.specs.declared.world_keys.WorldKey.TheVariants.{Outline, Mask, Composite}
use Rattle.world_core.specs.contracts.world_keys.WorldKeyPartialEq.TheImpl as world_eq

pub world_same : (a b : WorldKey) → world_eq.ghosts.eq a b ≡ true → a ≡ b
world_same (Outline a) (Outline b) is = ap Outline (region_same a b is)
world_same (Outline a) (Mask b) is = cc
world_same (Outline a) (Composite b) is = cc
world_same (Mask a) (Outline b) is = cc
world_same (Mask a) (Mask b) is = ap Mask (mask_same a b is)
world_same (Mask a) (Composite b) is = cc
world_same (Composite a) (Outline b) is = cc
world_same (Composite a) (Mask b) is = cc
world_same (Composite a) (Composite b) is = ap Composite (composite_same a b is)
