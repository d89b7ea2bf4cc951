-- Products of the numbers of a glyph's matrix.
use Rattle.std.proofs.Common.{◌≡◌, ◌^◌, ℤ, ◌*ℤ◌, FitsSigned, w64, to_z, of_z, to_z-of_z, ◌∙◌, refl, arith}
use Rattle.std.proofs.lemmas.Int.{ints}
use Rattle.ass_num.specs.Limits.{IsWithin}
use Rattle.outline_points.proofs.Bounds.{within_product}
use Rattle.cff_font.specs.Matrices.{max_share}

pub shared_product : (a b r : ℤ) → r ≡ to_z w64 (of_z w64 a) *ℤ to_z w64 (of_z w64 b) → FitsSigned w64 a → FitsSigned w64 b → IsWithin max_share a → (r ≡ a *ℤ b) × IsWithin (2 ^ 95) r
shared_product a b r is fa fb share =
    let e : r ≡ a *ℤ b = is ∙ rw (to_z-of_z fa, to_z-of_z fb) refl in
    let within : IsWithin (2 ^ 63) b = (omega (arith, ints), omega (arith, ints)) in
    (e, rw e (within_product max_share (2 ^ 63) a b share within))
