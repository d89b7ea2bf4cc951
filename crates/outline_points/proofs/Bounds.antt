-- How far from 0 products and quotients lie.
use Rattle.std.proofs.Common.{◌≡◌, ℕ, zero, suc, ◌+◌, ◌*◌, ◌<◌, ◌≤◌, ℤ, pos, negsuc, ◌+ℤ◌, ◌-ℤ◌, ◌*ℤ◌, FitsSigned, w64, to_z, of_z, to_z-of_z, ◌∙◌, refl, arith}
use Rattle.std.proofs.lemmas.Int.{ints}
use Rattle.std.proofs.lemmas.Nat.{mul-le}
use Rattle.ass_num.specs.Floor.{floor_div}
use Rattle.ass_num.proofs.Floor.{floor_div_within}
use Rattle.ass_num.proofs.LimitLemmas.{IsWithin-wider}
use Rattle.ass_num.specs.Limits.{IsWithin, max_held, one_16}
use Rattle.ass_num.specs.Sine.{max_sine}
use Rattle.outline_points.specs.Curves.{max_weight}
use Rattle.outline_points.specs.Limits.{max_scale, max_scaled, max_unturned}
use Rattle.outline_points.specs.Placing.{IsScale}

pub within_product : (m n : ℕ) (a b : ℤ) → IsWithin m a → IsWithin n b → IsWithin (m * n) (a *ℤ b)
within_product m n (pos a) (pos b) h k =
    let p : a ≤ m = omega (arith, ints) in let q : b ≤ n = omega (arith, ints) in let t = mul-le a b m n p q in
    (omega (arith, ints, t), omega (arith, ints, t))
within_product m n (pos a) (negsuc b) h k =
    let p : a ≤ m = omega (arith, ints) in let q : b + 1 ≤ n = omega (arith, ints) in let t = mul-le a (b + 1) m n p q in
    (omega (arith, ints, t), omega (arith, ints, t))
within_product m n (negsuc a) (pos b) h k =
    let p : a + 1 ≤ m = omega (arith, ints) in let q : b ≤ n = omega (arith, ints) in let t = mul-le (a + 1) b m n p q in
    (omega (arith, ints, t), omega (arith, ints, t))
within_product m n (negsuc a) (negsuc b) h k =
    let p : a + 1 ≤ m = omega (arith, ints) in let q : b + 1 ≤ n = omega (arith, ints) in let t = mul-le (a + 1) (b + 1) m n p q in
    (omega (arith, ints, t), omega (arith, ints, t))

-- A number within m * n, divided by n, is within m.
pub within_quotient : (m n : ℕ) (z : ℤ) → 0 < n → IsWithin (m * n) z → IsWithin m (floor_div z (pos n))
within_quotient zero n z positive h =
    let r = floor_div_within (pos 0) (pos 0) z n positive (omega (arith, ints)) (omega (arith, ints)) in
    (omega (arith, ints, r.0), r.1)
within_quotient (suc m) n z positive h =
    let r = floor_div_within (negsuc m) (pos (suc m)) z n positive (omega (arith, ints)) (omega (arith, ints)) in
    (r.0, r.1)

pub scale_within : (u : ℤ) → IsScale u → IsWithin max_scale u
scale_within u h = (omega (arith, ints), h.most)

-- a number of a path times the largest scale, in units of the least
abbrev pub max_scaled_number : ℕ
max_scaled_number = 16777216000000000

-- a number of a path times a scale
pub scaled_within : (a u : ℤ) (n : ℕ) → IsWithin max_held a → IsScale u → one_16 ≤ n → IsWithin (max_scaled_number * n) (a *ℤ u)
scaled_within a u n number scale unit =
    IsWithin-wider (max_held * max_scale) (max_scaled_number * n) (a *ℤ u) (omega arith) (within_product max_held max_scale a u number (scale_within u scale))

-- Numbers in i64 and in i128.
pub fits_from_within : (z : ℤ) → IsWithin (2 * max_unturned) z → FitsSigned w64 z
fits_from_within z h = omega (arith, ints)

-- A product of a coordinate and a sine.
pub turned_product : (a b r : ℤ) → r ≡ to_z w64 (of_z w64 a) *ℤ to_z w64 (of_z w64 b) → IsWithin max_unturned a → IsWithin max_sine b → (r ≡ a *ℤ b) × IsWithin (max_unturned * max_sine) r
turned_product a b r is coordinate sine =
    let fa : FitsSigned w64 a = omega (arith, ints) in
    let fb : FitsSigned w64 b = omega (arith, ints) in
    let e : r ≡ a *ℤ b = is ∙ rw (to_z-of_z fa, to_z-of_z fb) refl in
    (e, rw e (within_product max_unturned max_sine a b coordinate sine))

-- A product of a coordinate and a weight.
pub weighted_product : (a f r : ℤ) (w : ℕ) → r ≡ to_z w64 (of_z w64 a) *ℤ to_z w64 (of_z w64 f) → f ≡ pos w → w ≤ max_weight → IsWithin max_scaled a → (r ≡ a *ℤ pos w) × IsWithin (max_scaled * max_weight) r
weighted_product a f r w is number most coordinate =
    let fa : FitsSigned w64 a = omega (arith, ints) in
    let ff : FitsSigned w64 f = omega (arith, ints) in
    let e : r ≡ a *ℤ pos w = is ∙ rw (to_z-of_z fa, to_z-of_z ff, number) refl in
    let weight : IsWithin max_weight (pos w) = (omega (arith, ints), omega (arith, ints)) in
    (e, rw e (within_product max_scaled max_weight a (pos w) coordinate weight))

-- Two numbers added or subtracted.
pub within_sum : (m n : ℕ) (a b : ℤ) → IsWithin m a → IsWithin n b → IsWithin (m + n) (a +ℤ b) × IsWithin (m + n) (a -ℤ b)
within_sum m n a b h k = ((omega (arith, ints), omega (arith, ints)), (omega (arith, ints), omega (arith, ints)))
