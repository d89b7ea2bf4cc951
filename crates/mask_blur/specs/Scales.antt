-- Inner: means by a multiplication of 16 bits by 16 bits.
use Rattle.std.specs.Prelude.{ℕ, ◌+◌, ◌*◌, ◌/◌, ◌^◌, if◌then◌else◌, ltb}

-- by how many bits more than 16 a product is shifted
abbrev pub mean_shift : ℕ → ℕ
mean_shift r = if ltb r 15 then 1 else (if ltb r 36 then 4 else (if ltb r 77 then 6 else 7))

-- 2 to that power over the number of values, rounded up
abbrev pub mean_factor : ℕ → ℕ
mean_factor r = (2 ^ (16 + mean_shift r) + 2 * r) / (2 * r + 1)
