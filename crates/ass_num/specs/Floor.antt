-- Public: division and holding, as all formulas of whole numbers use them.
use Rattle.std.specs.Prelude.{ℤ}
use Rattle.std.specs.Int.{int_div_euclid, int_max, int_min}

-- the greatest whole number that isn't above a / b, where b is above 0
abbrev pub floor_div : ℤ → ℤ → ℤ
floor_div a b = int_div_euclid a b

-- the number from `least` to `most` that is nearest to x
abbrev pub held : ℤ → ℤ → ℤ → ℤ
held least most x = int_max least (int_min x most)
