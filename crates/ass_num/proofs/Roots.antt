-- The square root of the definition is the number with these two bounds.
use Rattle.std.proofs.Common.{◌≡◌, ◌≢◌, ℕ, zero, suc, ◌+◌, ◌*◌, ◌/◌, ◌%◌, ◌<◌, ◌≤◌, true, false, cond, ◌==◌, ◌||◌, ◌⊎◌, sym, ap, ◌∙◌, inl, inr, arith}
use Rattle.std.proofs.Math.Nat.{mul-le-mul}
use Rattle.std.proofs.lemmas.Bool.{cases_lt}
use Rattle.std.proofs.lemmas.Bool.Decides.{leb_tells, nat_tests}
use Rattle.ass_num.specs.Powers.{root_up_to, root_of, scaled, scaled_times, power_of}

square_le : (a b : ℕ) → a ≤ b → a * a ≤ b * b
square_le a b order = mul-le-mul order order

root_up_to_is : (most x r : ℕ) → r ≤ most → r * r ≤ x → x < (r + 1) * (r + 1) → root_up_to most x ≡ r
root_up_to_is zero x r bound below above = omega arith
root_up_to_is (suc most) x r bound below above = elim (leb_tells (suc most * suc most) x) [
  | inl fits ↦
      ap (λ b. cond b (suc most) (root_up_to most x)) fits.0
      ∙ elim (cases_lt r (suc most)) [
        | inl less ↦ absurd (omega (arith, fits.1, square_le (r + 1) (suc most) (omega arith)))
        | inr same ↦ omega arith
      ]
  | inr large ↦
      ap (λ b. cond b (suc most) (root_up_to most x)) large.0
      ∙ root_up_to_is most x r (elim (cases_lt r (suc most)) [
        | inl less ↦ omega arith
        | inr same ↦ absurd (omega (arith, large.1, square_le (suc most) r same))
      ]) below above
]

at_most_square : (r : ℕ) → r ≤ r * r
at_most_square zero = omega arith
at_most_square (suc r) = omega arith

pub root_of_is : (x r : ℕ) → r * r ≤ x → x < (r + 1) * (r + 1) → root_of x ≡ r
unfolding root_of
root_of_is x r below above = root_up_to_is x x r (omega (arith, at_most_square r)) below above

-- ---- the quarters of a power

two_or_three : (q : ℕ) → 2 ≤ q % 4 → ((q % 4 == 2) || (q % 4 == 3)) ≡ true
two_or_three q high = grind (arith, nat_tests)

none_or_one : (q : ℕ) → q % 4 < 2 → ((q % 4 == 2) || (q % 4 == 3)) ≡ false
none_or_one q low = grind (arith, nat_tests)

one_or_three : (q : ℕ) → q % 2 ≡ 1 → ((q % 4 == 1) || (q % 4 == 3)) ≡ true
one_or_three q odd = grind (arith, nat_tests)

none_or_two : (q : ℕ) → q % 2 ≢ 1 → ((q % 4 == 1) || (q % 4 == 3)) ≡ false
none_or_two q even = grind (arith, nat_tests)

-- the steps of a power
pub power_is : (x q half whole halves p : ℕ) → half ≡ root_of (x * 65536) → whole ≡ scaled_times 65536 x (q / 4) → ((2 ≤ q % 4) × (halves ≡ scaled whole half)) ⊎ ((q % 4 < 2) × (halves ≡ whole)) → ((q % 2 ≡ 1) × (p ≡ scaled halves (root_of (half * 65536)))) ⊎ ((q % 2 ≢ 1) × (p ≡ halves)) → p ≡ power_of x q
unfolding power_of
power_is x q half whole halves p half_is whole_is second last =
    let root = root_of (x * 65536) in
    let start = scaled_times 65536 x (q / 4) in
    let halves_is : halves ≡ cond ((q % 4 == 2) || (q % 4 == 3)) (scaled start root) start = elim second [
      | inl high ↦
          high.1 ∙ ap (λ z. scaled z half) whole_is ∙ ap (λ z. scaled start z) half_is ∙ ap (λ b. cond b (scaled start root) start) (sym (two_or_three q high.0))
      | inr low ↦ low.1 ∙ whole_is ∙ ap (λ b. cond b (scaled start root) start) (sym (none_or_one q low.0))
    ] in
    let all = cond ((q % 4 == 2) || (q % 4 == 3)) (scaled start root) start in
    elim last [
      | inl odd ↦
          odd.1 ∙ ap (λ z. scaled z (root_of (half * 65536))) halves_is ∙ ap (λ z. scaled all (root_of (z * 65536))) half_is
          ∙ ap (λ b. cond b (scaled all (root_of (root * 65536))) all) (sym (one_or_three q odd.0))
      | inr even ↦ even.1 ∙ halves_is ∙ ap (λ b. cond b (scaled all (root_of (root * 65536))) all) (sym (none_or_two q even.0))
    ]
