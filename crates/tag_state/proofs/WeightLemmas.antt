-- No weight is above 1, and a number that a weight moves stays in the range of the two that it moves between.
use Rattle.std.proofs.Common.{◌≡◌, ℕ, zero, suc, ◌+◌, ◌*◌, ◌/◌, ◌%◌, ◌≤◌, ◌==◌, ◌||◌, ℤ, pos, negsuc, ◌-ℤ◌, ◌<ℤ◌, ◌≤ℤ◌, Bool, true, false, cond, refl, sym, subst, inl, inr, Option, None, Some, arith}
use Rattle.std.specs.Prelude.{int_lt, int_le}
use Rattle.std.specs.Int.RustNames.{unsigned_abs}
use Rattle.std.proofs.lemmas.Nat.{mul-le}
use Rattle.std.proofs.lemmas.Bool.{cases_lt}
use Rattle.std.proofs.lemmas.Bool.Decides.{leb_tells}
use Rattle.std.proofs.lemmas.Int.{ints, clamps}
use Rattle.ass_num.specs.Limits.{max_held, one_16}
use Rattle.ass_num.specs.Powers.{root_up_to, root_of, scaled, scaled_times, power_of}
use Rattle.event_instants.specs.Instants.{between, share, weight_at, transform_weight, moved, move_weight}
use Rattle.event_instants.proofs.OnTheWay.{between_within}
use Rattle.ass_num.proofs.OrderLemmas.{lt_not, le_not}

-- ---- powers

root_square : (most x : ℕ) → root_up_to most x * root_up_to most x ≤ x
root_square zero x = omega arith
root_square (suc most) x = elim (leb_tells (suc most * suc most) x) [
  | inl fits ↦ subst (λ (b : Bool). cond b (suc most) (root_up_to most x) * cond b (suc most) (root_up_to most x) ≤ x) (sym fits.0) fits.1
  | inr large ↦ subst (λ (b : Bool). cond b (suc most) (root_up_to most x) * cond b (suc most) (root_up_to most x) ≤ x) (sym large.0) (root_square most x)
]

below_square : (r n : ℕ) → r * r ≤ n * n → r ≤ n
below_square r n small = elim (cases_lt n r) [
  | inl more ↦ absurd (omega (arith, small, mul-le (n + 1) (n + 1) r r (omega arith) (omega arith)))
  | inr le ↦ le
]

root_unit : (x : ℕ) → x ≤ one_16 → root_of (x * 65536) ≤ one_16
unfolding root_of
root_unit x small = below_square (root_up_to (x * 65536) (x * 65536)) 65536 (omega (arith, root_square (x * 65536) (x * 65536), small))

scaled_down : (p x : ℕ) → x ≤ one_16 → scaled p x ≤ p
scaled_down p x small = omega (arith, mul-le p x p 65536 (omega arith) small)

scaled_unit : (x n : ℕ) → x ≤ one_16 → scaled_times 65536 x n ≤ one_16
scaled_unit x zero small = omega arith
scaled_unit x (suc n) small = omega (arith, scaled_down (scaled_times 65536 x n) x small, scaled_unit x n small)

part_unit : (b : Bool) (whole part : ℕ) → whole ≤ one_16 → part ≤ one_16 → cond b (scaled whole part) whole ≤ one_16
part_unit true whole part unit small = omega (arith, scaled_down whole part small, unit)
part_unit false whole part unit small = unit

power_unit : (x q : ℕ) → x ≤ one_16 → power_of x q ≤ one_16
unfolding power_of
power_unit x q small =
    let half = root_of (x * 65536) in
    let whole = scaled_times 65536 x (q / 4) in
    let second = (q % 4 == 2) || (q % 4 == 3) in
    part_unit ((q % 4 == 1) || (q % 4 == 3)) (cond second (scaled whole half) whole) (root_of (half * 65536))
    (part_unit second whole half (scaled_unit x (q / 4) small) (root_unit x small)) (root_unit half (root_unit x small))

-- ---- weights

pub abs_most : (z : ℤ) (most : ℕ) → pos 0 ≤ℤ z → z ≤ℤ pos most → unsigned_abs z ≤ most
abs_most (pos n) most low high = omega (arith, ints)
abs_most (negsuc n) most low high = absurd (omega (arith, ints))

share_unit : (begin end elapsed : ℤ) → begin ≤ℤ elapsed → elapsed <ℤ end → share begin end elapsed ≤ one_16
share_unit begin end elapsed begun before =
    let way = between_within (pos 0) (pos 65536) (elapsed -ℤ begin) (end -ℤ begin) (omega (arith, ints)) (omega (arith, ints)) (omega (arith, ints)) in
    abs_most (between (pos 0) (pos 65536) (elapsed -ℤ begin) (end -ℤ begin)) 65536 way.0 way.1

weight_unit : (t1 t2 : ℤ) (quarters : ℕ) (elapsed : ℤ) → weight_at t1 t2 quarters elapsed ≤ one_16
weight_unit t1 t2 quarters elapsed = first (int_lt elapsed t1) refl
  where
    second : (b : Bool) → int_le t2 elapsed ≡ b → t1 ≤ℤ elapsed → cond b 65536 (power_of (share t1 t2 elapsed) quarters) ≤ one_16
    second true e begun = omega arith
    second false e begun = power_unit (share t1 t2 elapsed) quarters (share_unit t1 t2 elapsed begun (le_not t2 elapsed e))

    first : (b : Bool) → int_lt elapsed t1 ≡ b → cond b 0 (cond (int_le t2 elapsed) 65536 (power_of (share t1 t2 elapsed) quarters)) ≤ one_16
    first true e = omega arith
    first false e = second (int_le t2 elapsed) refl (lt_not elapsed t1 e)

pub transform_unit : (times : Option (ℤ × ℤ)) (duration : ℤ) (quarters : ℕ) (elapsed : ℤ) → transform_weight times duration quarters elapsed ≤ one_16
transform_unit None duration quarters elapsed = weight_unit (pos 0) duration quarters elapsed
transform_unit (Some times) duration quarters elapsed = weight_unit times.0 times.1 quarters elapsed

pub move_unit : (times : ℤ × ℤ) (elapsed : ℤ) → move_weight times elapsed ≤ one_16
move_unit times elapsed = first (int_le elapsed times.0) refl
  where
    second : (b : Bool) → int_le times.1 elapsed ≡ b → times.0 <ℤ elapsed → cond b 65536 (share times.0 times.1 elapsed) ≤ one_16
    second true e begun = omega arith
    second false e begun = share_unit times.0 times.1 elapsed (omega (arith, ints, begun)) (le_not times.1 elapsed e)

    first : (b : Bool) → int_le elapsed times.0 ≡ b → cond b 0 (cond (int_le times.1 elapsed) 65536 (share times.0 times.1 elapsed)) ≤ one_16
    first true e = omega arith
    first false e = second (int_le times.1 elapsed) refl (le_not elapsed times.0 e)

-- ---- numbers on their way

-- a number from `least` on, and not above the greatest that is held
abbrev pub IsHeldFrom : ℤ → ℤ → Type 0
IsHeldFrom least z = (least ≤ℤ z) × (z ≤ℤ pos max_held)

pub moved_held : (least old new : ℤ) (weight : ℕ) → weight ≤ one_16 → IsHeldFrom least old → IsHeldFrom least new → IsHeldFrom least (moved old new weight)
moved_held least old new weight unit first last =
    let way = between_within old new (pos weight) (pos 65536) (omega (arith, ints)) (omega (arith, ints, unit)) (omega (arith, ints)) in
    (omega (arith, ints, clamps, way.0, first.0, last.0), omega (arith, ints, clamps, way.1, first.1, last.1))
