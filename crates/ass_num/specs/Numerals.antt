-- Public: numbers, colours and times as scripts write them, byte by byte.
use Rattle.std.specs.Prelude.{◌≡◌, ℕ, min, ◌+◌, ◌*◌, ◌/◌, ◌%◌, ◌^◌, ◌<◌, ◌≤◌, Bool, true, false, ◌==◌, ◌&&◌, ◌||◌, if◌then◌else◌, List, [], ◌∷◌, ◌++◌, length, codes, ◌⊎◌, ℤ, pos, neg_ℤ}
use Rattle.std.specs.Char.{digit_value, is_digit}
use Rattle.std.specs.Int.{int_rem_euclid}
use Rattle.std.specs.List.{AllPass}
use Rattle.ass_num.specs.Bytes.{tab, space, ampersand, plus, minus, upper_h, lower_h}
use Rattle.ass_num.specs.Floor.{held}
use Rattle.ass_num.specs.Limits.{max_held, max_whole}

-- a space or a tab
abbrev pub is_blank : ℕ → Bool
is_blank c = (c == space) || (c == tab)

-- `0` to `9`
abbrev pub is_decimal : ℕ → Bool
is_decimal c = is_digit c 10

-- `0` to `9`, `a` to `f` and `A` to `F`
abbrev pub is_hexadecimal : ℕ → Bool
is_hexadecimal c = is_digit c 16

-- What may stand before the digits of a colour: `&`, `H`, `h` and blanks.
abbrev pub is_mark : ℕ → Bool
is_mark c = (c == ampersand) || ((c == upper_h) || ((c == lower_h) || is_blank c))

-- the number that digits say in a base: the sum of the digits, each times its power of the base
abbrev pub number_of : ℕ → List ℕ → ℕ
number_of base [] = 0
number_of base (digit ∷ digits) = digit_value digit * base ^ length digits + number_of base digits

-- `+` or `-`
abbrev pub is_sign : ℕ → Bool
is_sign c = (c == plus) || (c == minus)

-- how many bytes a sign takes at the front of a text
abbrev pub sign_len : List ℕ → ℕ
sign_len [] = 0
sign_len (c ∷ _) = if is_sign c then 1 else 0

-- no sign, or one
abbrev pub IsSign : List ℕ → Type 0
IsSign sign = (sign ≡ []) ⊎ ((sign ≡ codes "+") ⊎ (sign ≡ codes "-"))

-- a number under its sign
abbrev pub signed : List ℕ → ℕ → ℤ
signed [] n = pos n
signed (sign ∷ _) n = if sign == minus then neg_ℤ (pos n) else pos n

-- A number with a point or without, in thousandths cut toward zero. Of digits it has at least one.
pub record IsDecimal (bytes : List ℕ) (thousandths : ℕ) : Type 0 where
  pub whole : List ℕ
  pub point : List ℕ
  pub fraction : List ℕ
  pub spelled : bytes ≡ whole ++ (point ++ fraction)
  pub whole_digits : AllPass is_decimal whole
  pub fraction_digits : AllPass is_decimal fraction
  pub point_or_none : (point ≡ codes ".") ⊎ ((point ≡ []) × (fraction ≡ []))
  pub some_digit : 0 < length whole + length fraction
  pub value : thousandths ≡ number_of 10 (whole ++ fraction) * 1000 / 10 ^ length fraction

-- a number, held at a million
abbrev pub IsHeldDecimal : List ℕ → ℕ → Type 0
IsHeldDecimal bytes thousandths = (n : ℕ) × IsDecimal bytes n × (thousandths ≡ min n max_held)

-- A sign or none and a number, held within a million on both sides, in thousandths.
pub record IsMilli (bytes : List ℕ) (milli : ℤ) : Type 0 where
  pub sign : List ℕ
  pub decimal : List ℕ
  pub thousandths : ℕ
  pub spelled : bytes ≡ sign ++ decimal
  pub sign_or_none : IsSign sign
  pub number : IsDecimal decimal thousandths
  pub value : milli ≡ held (neg_ℤ (pos max_held)) (pos max_held) (signed sign thousandths)

-- Blanks, a sign or none, digits and blanks: a whole number of 31 bits under its sign.
pub record IsWholeNumber (bytes : List ℕ) (whole : ℤ) : Type 0 where
  pub before : List ℕ
  pub sign : List ℕ
  pub digits : List ℕ
  pub after : List ℕ
  pub spelled : bytes ≡ before ++ (sign ++ (digits ++ after))
  pub blanks_before : AllPass is_blank before
  pub sign_or_none : IsSign sign
  pub all_digits : AllPass is_decimal digits
  pub some_digit : 0 < length digits
  pub blanks_after : AllPass is_blank after
  pub small : number_of 10 digits ≤ max_whole
  pub value : whole ≡ signed sign (number_of 10 digits)

-- Marks and hexadecimal digits: their low `width` bits.
pub record IsMarked (width : ℕ) (bytes : List ℕ) (low : ℕ) : Type 0 where
  pub marks : List ℕ
  pub digits : List ℕ
  pub spelled : bytes ≡ marks ++ digits
  pub all_marks : AllPass is_mark marks
  pub all_digits : AllPass is_hexadecimal digits
  pub some_digit : 0 < length digits
  pub value : low ≡ number_of 16 digits % 2 ^ width

-- a colour: alpha, blue, green and red from the highest byte down
abbrev pub IsColour : List ℕ → ℕ → Type 0
IsColour bytes colour = IsMarked 32 bytes colour

-- an alpha: the lowest byte
abbrev pub IsAlpha : List ℕ → ℕ → Type 0
IsAlpha bytes alpha = IsMarked 8 bytes alpha

-- A sign or none and decimal digits: the number modulo 2 ^ 32.
pub record IsWrapped (bytes : List ℕ) (low : ℕ) : Type 0 where
  pub sign : List ℕ
  pub digits : List ℕ
  pub spelled : bytes ≡ sign ++ digits
  pub sign_or_none : IsSign sign
  pub all_digits : AllPass is_decimal digits
  pub some_digit : 0 < length digits
  pub value : pos low ≡ int_rem_euclid (signed sign (number_of 10 digits)) (pos (2 ^ 32))

-- whether a text begins with `&H` or `&h`
abbrev pub is_hex_start : List ℕ → Bool
is_hex_start (first ∷ (second ∷ _)) = (first == ampersand) && ((second == upper_h) || (second == lower_h))
is_hex_start _ = false

-- The colour of a style: behind blanks either a colour that begins with `&H` or `&h`, or a decimal number.
pub record IsStyleColour (bytes : List ℕ) (colour : ℕ) : Type 0 where
  pub blanks : List ℕ
  pub code : List ℕ
  pub spelled : bytes ≡ blanks ++ code
  pub all_blanks : AllPass is_blank blanks
  pub value : ((is_hex_start code ≡ true) × IsColour code colour) ⊎ IsWrapped code colour

-- one to six digits
pub record IsTimePart (digits : List ℕ) : Type 0 where
  pub all_digits : AllPass is_decimal digits
  pub some_digit : 0 < length digits
  pub at_most_six : length digits ≤ 6

-- A part of a time at the front of a text, before the byte `mark`, and the length of both.
pub record IsTimeField (mark : ℕ) (text : List ℕ) (number len : ℕ) : Type 0 where
  pub digits : List ℕ
  pub rest : List ℕ
  pub spelled : text ≡ digits ++ (mark ∷ rest)
  pub part : IsTimePart digits
  pub value : number ≡ number_of 10 digits
  pub length_of_both : len ≡ length digits + 1

-- Blanks, `hours:minutes:seconds.hundredths` and blanks: a time in milliseconds.
pub record IsTime (bytes : List ℕ) (time : ℤ) : Type 0 where
  pub before : List ℕ
  pub hours : List ℕ
  pub minutes : List ℕ
  pub seconds : List ℕ
  pub hundredths : List ℕ
  pub after : List ℕ
  pub spelled : bytes ≡ before ++ (hours ++ (codes ":" ++ (minutes ++ (codes ":" ++ (seconds ++ (codes "." ++ (hundredths ++ after)))))))
  pub blanks_before : AllPass is_blank before
  pub hours_part : IsTimePart hours
  pub minutes_part : IsTimePart minutes
  pub seconds_part : IsTimePart seconds
  pub hundredths_part : IsTimePart hundredths
  pub blanks_after : AllPass is_blank after
  pub value : time ≡ pos (((number_of 10 hours * 60 + number_of 10 minutes) * 60 + number_of 10 seconds) * 1000 + number_of 10 hundredths * 10)
