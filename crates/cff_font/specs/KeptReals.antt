-- Inner: what is kept of a real number, whose value hangs on no more than its first nineteen digits.
use Rattle.std.specs.Prelude.{◌≡◌, ℕ, ◌*◌, ◌/◌, ◌^◌, ◌<◌, ◌≤◌, ◌⊎◌, min}
use Rattle.cff_font.specs.declared.reals.Digits.{Digits}
use Rattle.cff_font.specs.declared.reals.Real.{Real}
use Rattle.cff_font.specs.Reals.{ExactReal}

-- the least number of nineteen digits
abbrev pub nineteen_digits : ℕ
nineteen_digits = 1000000000000000000

-- the greatest exponent that is counted, which is beyond all places of digits
abbrev pub max_exponent : ℕ
max_exponent = 1000000000000000000000000000000

-- Of a whole number all digits are kept but so many last ones, and nineteen where one is dropped.
pub record AreDigitsOf (n : ℕ) (digits : Digits) : Type 0 where
  pub kept : digits.kept ≡ n / 10 ^ digits.dropped
  pub few : digits.kept < 10 * nineteen_digits
  pub full : (digits.dropped ≡ 0) ⊎ (nineteen_digits ≤ digits.kept)

-- So much of a number is kept, of which at most so many halves of bytes are read.
pub record IsKeptOf (halves : ℕ) (exact : ExactReal) (real : Real) : Type 0 where
  pub marks : real.marks ≡ exact.marks
  pub digits : AreDigitsOf exact.digits real.digits
  pub dropped : real.digits.dropped ≤ halves
  pub places : real.places ≡ exact.places
  pub few : real.places ≤ halves
  pub exponent : real.exponent ≡ min exact.exponent max_exponent

-- What is kept of a number is within its bounds. This is a condition of calls.
pub record IsReal (real : Real) : Type 0 where
  pub kept : real.digits.kept < 10 * nineteen_digits
  pub dropped : real.digits.dropped < max_exponent
  pub places : real.places < max_exponent
  pub exponent : real.exponent ≤ max_exponent
