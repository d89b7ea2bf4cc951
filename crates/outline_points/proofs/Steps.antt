-- The 17 steps of a curve, one by one.
use Rattle.std.proofs.Common.{◌≡◌, ℕ, zero, suc, ◌+◌, ◌*◌, ◌<◌, ◌≤◌, Bool, true, ◌&&◌, refl, sym, ap, ◌∙◌, arith, leb, inl, inr}
use Rattle.std.proofs.lemmas.Bool.{and_parts, leb-true, cases_lt}
use Rattle.std.specs.List.{list_all, range_with_len}

-- What a test says of each number of a range.
at_number : (p : ℕ → Bool) (a n u : ℕ) → list_all p (range_with_len a n) ≡ true → a ≤ u → u < a + n → p u ≡ true
at_number p a zero u h low high = absurd (omega arith)
at_number p a (suc n) u h low high =
    let parts = and_parts (p a) (list_all p (range_with_len (a + 1) n)) h in
    elim (cases_lt a u) [
      | inl more ↦ at_number p (a + 1) n u parts.1 (omega arith) (omega arith)
      | inr less ↦ let e : a ≡ u = omega arith in ap p (sym e) ∙ parts.0
    ]

first_fits : ℕ → Bool
first_fits u = leb (96 * (u * u)) (3 * (u * u * u) + 16384) && leb (3 * (u * u * u) + 16384) (96 * (u * u) + 16384)

second_fits : ℕ → Bool
second_fits u = leb (3 * (u * u * u)) (48 * (u * u) + 768 * u + 4096) && leb (48 * (u * u) + 768 * u + 4096) (3 * (u * u * u) + 16384)

-- The second weight of a spline is from 0 to 16384,
pub second_weight : (u : ℕ) → u ≤ 16 → (96 * (u * u) ≤ 3 * (u * u * u) + 16384) × (3 * (u * u * u) + 16384 ≤ 96 * (u * u) + 16384)
unfolding first_fits
second_weight u order =
    let parts = and_parts (leb (96 * (u * u)) (3 * (u * u * u) + 16384)) (leb (3 * (u * u * u) + 16384) (96 * (u * u) + 16384)) (at_number first_fits 0 17 u refl (omega arith) (omega arith)) in
    (leb-true (96 * (u * u)) (3 * (u * u * u) + 16384) parts.0, leb-true (3 * (u * u * u) + 16384) (96 * (u * u) + 16384) parts.1)

-- and so is the third.
pub third_weight : (u : ℕ) → u ≤ 16 → (3 * (u * u * u) ≤ 48 * (u * u) + 768 * u + 4096) × (48 * (u * u) + 768 * u + 4096 ≤ 3 * (u * u * u) + 16384)
unfolding second_fits
third_weight u order =
    let parts = and_parts (leb (3 * (u * u * u)) (48 * (u * u) + 768 * u + 4096)) (leb (48 * (u * u) + 768 * u + 4096) (3 * (u * u * u) + 16384)) (at_number second_fits 0 17 u refl (omega arith) (omega arith)) in
    (leb-true (3 * (u * u * u)) (48 * (u * u) + 768 * u + 4096) parts.0, leb-true (48 * (u * u) + 768 * u + 4096) (3 * (u * u * u) + 16384) parts.1)
