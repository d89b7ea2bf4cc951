-- A number on the way from one to another lies between them.
use Rattle.std.proofs.Common.{ℕ, ◌+◌, ◌*◌, ◌<◌, ◌≤◌, ℤ, pos, negsuc, ◌-ℤ◌, ◌*ℤ◌, ◌<ℤ◌, ◌≤ℤ◌, neg_ℤ, FitsSigned, w64, arith}
use Rattle.std.proofs.lemmas.Int.{ints, clamps}
use Rattle.std.proofs.lemmas.Nat.{mul-le}
use Rattle.std.proofs.Math.Nat.{mul-le-mul_left}
use Rattle.ass_num.specs.Floor.{floor_div}
use Rattle.ass_num.proofs.Floor.{floor_div_within}
use Rattle.event_instants.specs.Instants.{between, IsBetween}

-- A part of d is between 0 and d.
part_within : (d : ℤ) (p n : ℕ) → p ≤ n → 0 < n → IsBetween (pos 0) d (floor_div (d *ℤ pos p) (pos n))
part_within (pos m) p n order positive =
    let product = mul-le-mul_left m order in
    let t = floor_div_within (pos 0) (pos m) (pos m *ℤ pos p) n positive (omega (arith, ints)) (omega (arith, ints, product)) in
    (omega (arith, ints, clamps, t.0), omega (arith, ints, clamps, t.1))
part_within (negsuc m) p n order positive =
    let product = mul-le-mul_left (m + 1) order in
    let t = floor_div_within (negsuc m) (pos 0) (negsuc m *ℤ pos p) n positive (omega (arith, ints, product)) (omega (arith, ints)) in
    (omega (arith, ints, clamps, t.0), omega (arith, ints, clamps, t.1))

pub between_within : (old new part whole : ℤ) → pos 0 ≤ℤ part → part ≤ℤ whole → pos 0 <ℤ whole → IsBetween old new (between old new part whole)
between_within old new (pos p) (pos n) begun order positive =
    let t = part_within (new -ℤ old) p n (omega (arith, ints)) (omega (arith, ints)) in
    (omega (arith, ints, clamps, t.0, t.1), omega (arith, ints, clamps, t.0, t.1))
between_within old new (negsuc p) whole begun order positive = absurd (omega (arith, ints))
between_within old new (pos p) (negsuc n) begun order positive = absurd (omega (arith, ints))

-- So it fits wherever they do.
pub fits_between : (a b x : ℤ) → FitsSigned w64 a → FitsSigned w64 b → IsBetween a b x → FitsSigned w64 x
fits_between a b x first last h = omega (arith, ints, clamps, h.0, h.1)

-- A product of numbers that aren't far from 0.
pub product_within : (m n : ℕ) (d p : ℤ) → neg_ℤ (pos m) ≤ℤ d → d ≤ℤ pos m → pos 0 ≤ℤ p → p ≤ℤ pos n → (neg_ℤ (pos (m * n)) ≤ℤ (d *ℤ p)) × ((d *ℤ p) ≤ℤ pos (m * n))
product_within m n (pos d) (pos p) least most begun order =
    let t = mul-le d p m n (omega (arith, ints)) (omega (arith, ints)) in (omega (arith, ints, t), omega (arith, ints, t))
product_within m n (negsuc d) (pos p) least most begun order =
    let t = mul-le (d + 1) p m n (omega (arith, ints)) (omega (arith, ints)) in (omega (arith, ints, t), omega (arith, ints, t))
product_within m n d (negsuc p) least most begun order = absurd (omega (arith, ints))
