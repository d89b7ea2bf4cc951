-- Public: powers by quarters, of numbers with 16 fraction bits.
use Rattle.std.specs.Prelude.{ℕ, zero, suc, ◌*◌, ◌/◌, ◌%◌, ◌==◌, ◌||◌, nat_le, if◌then◌else◌}
use Rattle.ass_num.specs.Limits.{one_16}

-- the greatest number from 0 to `most` whose square isn't above x
abbrev pub root_up_to : ℕ → ℕ → ℕ
root_up_to zero x = 0
root_up_to (suc most) x = if nat_le (suc most * suc most) x then suc most else root_up_to most x

-- the square root of x, rounded down: the greatest number whose square isn't above x
unfoldable pub root_of : ℕ → ℕ
root_of x = root_up_to x x

-- p times x with 16 fraction bits, rounded down
abbrev pub scaled : ℕ → ℕ → ℕ
scaled p x = p * x / one_16

-- p times x so many times
abbrev pub scaled_times : ℕ → ℕ → ℕ → ℕ
scaled_times p x zero = p
scaled_times p x (suc n) = scaled (scaled_times p x n) x

-- x to the power q / 4: whole powers first, then the square root, then the fourth root
unfoldable pub power_of : ℕ → ℕ → ℕ
power_of x q =
    let half = root_of (x * one_16) in
    let quarter = root_of (half * one_16) in
    let whole = scaled_times one_16 x (q / 4) in
    let halves = if (q % 4 == 2) || (q % 4 == 3) then scaled whole half else whole in
    if (q % 4 == 1) || (q % 4 == 3) then scaled halves quarter else halves
