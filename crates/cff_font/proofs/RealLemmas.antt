-- One turn of the loop over the bytes of a real number; products of numbers of a matrix.
use Rattle.std.proofs.Common.{◌≡◌, ℕ, suc, ◌+◌, ◌-◌, ◌*◌, ◌<◌, ◌≤◌, List, ℤ, ◌-ℤ◌, ◌*ℤ◌, FitsSigned, to_z, of_z, to_z-of_z, sym, ap, ap₂, ◌∙◌, arith}
use Rattle.std.proofs.lemmas.Int.{ints}
use Rattle.ass_num.specs.Limits.{IsWithin}
use Rattle.outline_points.proofs.Bounds.{within_product}
use Rattle.font_bytes.specs.Bytes.{u8_at}
use Rattle.cff_font.specs.Reals.{ExactReal, byte_read, bytes_read, max_decimal}
use mir.Syntax.{w64, w128}

pub bytes_spent : (bytes : List ℕ) (behind i : ℕ) (real : ExactReal) → behind ≤ i → bytes_read bytes (behind - i) i real ≡ real
bytes_spent bytes behind i real spent =
    let left : behind - i ≡ 0 = omega arith in
    ap (λ n. bytes_read bytes n i real) left

pub bytes_next : (bytes : List ℕ) (behind i : ℕ) (real next : ExactReal) → i < behind → next ≡ byte_read real (u8_at bytes i) → bytes_read bytes (behind - (i + 1)) (i + 1) next ≡ bytes_read bytes (behind - i) i real
bytes_next bytes behind i real next less is =
    let left : behind - i ≡ suc (behind - (i + 1)) = omega arith in
    ap (bytes_read bytes (behind - (i + 1)) (i + 1)) is ∙ ap (λ n. bytes_read bytes n i real) (sym left)

pub decimal_fits : (z : ℤ) → IsWithin max_decimal z → FitsSigned w64 z
decimal_fits z within = omega (arith, ints, within.0, within.1)

-- a number of a matrix, read at a greater width
pub widened : (z wide : ℤ) → IsWithin max_decimal z → wide ≡ to_z w64 (of_z w64 z) → to_z w128 (of_z w128 wide) ≡ z
widened z wide within is =
    let same : wide ≡ z = is ∙ to_z-of_z (decimal_fits z within) in
    let fits : FitsSigned w128 wide = rw same (omega (arith, ints, within.0, within.1)) in
    to_z-of_z fits ∙ same

pub widened_product : (a b x y : ℤ) → IsWithin max_decimal a → IsWithin max_decimal b → x ≡ to_z w64 (of_z w64 a) → y ≡ to_z w64 (of_z w64 b) →
    to_z w128 (of_z w128 (to_z w128 (of_z w128 x) *ℤ to_z w128 (of_z w128 y))) ≡ a *ℤ b
widened_product a b x y ha hb ex ey =
    let product = within_product max_decimal max_decimal a b ha hb in
    let fits : FitsSigned w128 (a *ℤ b) = omega (arith, ints, product.0, product.1) in
    ap₂ (λ p q. to_z w128 (of_z w128 (p *ℤ q))) (widened a x ha ex) (widened b y hb ey) ∙ to_z-of_z fits

pub difference_within : (a b c d : ℤ) → IsWithin max_decimal a → IsWithin max_decimal b → IsWithin max_decimal c → IsWithin max_decimal d →
    IsWithin (2 * max_decimal * max_decimal) ((a *ℤ b) -ℤ (c *ℤ d))
difference_within a b c d ha hb hc hd =
    let first = within_product max_decimal max_decimal a b ha hb in
    let second = within_product max_decimal max_decimal c d hc hd in
    (omega (arith, ints, first.0, second.1), omega (arith, ints, first.1, second.0))
