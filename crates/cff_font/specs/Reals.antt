-- Public: real numbers of a DICT, half a byte after the other (Adobe Technical Note 5176, "DICT Data", Table 5), in 10^-15.
use Rattle.std.specs.Prelude.{ℕ, zero, suc, ◌+◌, ◌-◌, ◌*◌, ◌/◌, ◌%◌, ◌^◌, Bool, true, false, ◌==◌, nat_lt, min, if◌then◌else◌, List, ℤ, pos, neg_ℤ}
use Rattle.font_bytes.specs.Bytes.{u8_at}
use Rattle.cff_font.specs.declared.reals.RealMarks.{RealMarks}
use Rattle.cff_font.specs.declared.reals.RealPart.{RealPart}
use Rattle.cff_font.specs.declared.reals.RealPart.TheVariants.{Whole, Fraction, Exponent, End}

-- 1
abbrev pub decimal_one : ℕ
decimal_one = 1000000000000000

-- The most that a number of a matrix is: 1,000. A greater one counts as this.
abbrev pub max_decimal : ℕ
max_decimal = 1000000000000000000

-- A real number as far as it is read: what its marks say, all its digits as one whole number, how many of them stand behind the
-- point, and the power of ten that its exponent names. Each is exact, however many digits there are.
pub record ExactReal : Type 0 where
  pub marks : RealMarks
  pub digits : ℕ
  pub places : ℕ
  pub exponent : ℕ

-- before the first digit
abbrev pub first_marks : RealMarks
first_marks = record { part = Whole; is_negative = false; is_divided = false }

abbrev pub first_real : ExactReal
first_real = record { marks = first_marks; digits = 0; places = 0; exponent = 0 }

-- a number with one digit more in a part
abbrev pub with_digit : ExactReal → ℕ → RealPart → ExactReal
with_digit real digit Whole = record { marks = real.marks; digits = real.digits * 10 + digit; places = real.places; exponent = real.exponent }
with_digit real digit Fraction = record { marks = real.marks; digits = real.digits * 10 + digit; places = real.places + 1; exponent = real.exponent }
with_digit real digit Exponent = record { marks = real.marks; digits = real.digits; places = real.places; exponent = real.exponent * 10 + digit }
with_digit real digit End = real

-- the same signs, whose next part begins
abbrev pub marks_in : RealMarks → RealPart → RealMarks
marks_in marks part = record { part = part; is_negative = marks.is_negative; is_divided = marks.is_divided }

-- 10 is a point, 11 the E before an exponent, 12 one before an exponent below 0, 14 a minus, 15 the end; 13 is none.
abbrev pub with_mark : RealMarks → ℕ → RealMarks
with_mark marks mark =
    if mark == 10 then marks_in marks Fraction
    else if mark == 11 then marks_in marks Exponent
    else if mark == 12 then record { part = Exponent; is_negative = marks.is_negative; is_divided = true }
    else if mark == 14 then record { part = marks.part; is_negative = true; is_divided = marks.is_divided }
    else if mark == 15 then marks_in marks End
    else marks

-- nothing counts behind the end
abbrev pub with_mark_in : RealPart → RealMarks → ℕ → RealMarks
with_mark_in End marks mark = marks
with_mark_in part marks mark = with_mark marks mark

-- a number with half a byte more
abbrev pub half_read : ExactReal → ℕ → ExactReal
half_read real half =
    if nat_lt half 10 then with_digit real half real.marks.part
    else record { marks = with_mark_in real.marks.part real.marks half; digits = real.digits; places = real.places; exponent = real.exponent }

-- a number with a byte more, whose upper half is read first
abbrev pub byte_read : ExactReal → ℕ → ExactReal
byte_read real b = half_read (half_read real (b / 16)) (b % 16)

-- a number with n bytes more from a place on
abbrev pub bytes_read : List ℕ → ℕ → ℕ → ExactReal → ExactReal
bytes_read bytes zero at real = real
bytes_read bytes (suc n) at real = bytes_read bytes n (at + 1) (byte_read real (u8_at bytes at))

-- the power of ten that multiplies the digits, and that which divides them
abbrev pub raised_by : Bool → ℕ → ℕ
raised_by true exponent = 15
raised_by false exponent = 15 + exponent

abbrev pub lowered_by : Bool → ℕ → ℕ → ℕ
lowered_by true places exponent = places + exponent
lowered_by false places exponent = places

-- a whole number times a power of ten and divided by one, rounded towards 0, at most 1,000
abbrev pub scaled_by : ℕ → ℕ → ℕ → ℕ
scaled_by digits raised lowered = min (digits * 10 ^ raised / 10 ^ lowered) max_decimal

abbrev pub with_minus : Bool → ℕ → ℤ
with_minus true n = neg_ℤ (pos n)
with_minus false n = pos n

-- what a real number is without its minus
abbrev pub size_of_real : ExactReal → ℕ
size_of_real real = scaled_by real.digits (raised_by real.marks.is_divided real.exponent) (lowered_by real.marks.is_divided real.places real.exponent)

-- what a real number is
abbrev pub value_of_real : ExactReal → ℤ
value_of_real real = with_minus real.marks.is_negative (size_of_real real)

-- the real number whose bytes are those from a place up to another
abbrev pub real_between : List ℕ → ℕ → ℕ → ℤ
real_between bytes at behind = value_of_real (bytes_read bytes (behind - at) at first_real)
