-- A mask that is moved within a composite's limit can be added.
use Rattle.std.proofs.Common.{◌≡◌, ℤ, arith}
use Rattle.std.proofs.lemmas.Int.{ints}
use Rattle.ass_num.specs.Limits.{IsMaskWithin, IsWithin, max_mask_corner, max_mask_side}
use Rattle.ass_num.specs.Masks.{MaskValue}
use Rattle.mask_cover.specs.Sums.{IsPlaceableMask}
use Rattle.mask_keys.specs.Keys.{max_part_offset}

pub placeable : (m : MaskValue) (dx dy x y : ℤ) → IsMaskWithin max_mask_corner max_mask_side m → dx ≡ x → dy ≡ y → IsWithin max_part_offset x → IsWithin max_part_offset y
    → IsPlaceableMask (m, dx, dy)
placeable m dx dy x y within f g across down =
    let left = across.0 in
    let right = across.1 in
    let top = down.0 in
    let bottom = down.1 in
    record { mask = within; dx = (omega (arith, ints), omega (arith, ints)); dy = (omega (arith, ints), omega (arith, ints)) }
