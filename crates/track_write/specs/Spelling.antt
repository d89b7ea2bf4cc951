-- Public: numbers, times and colours as a written script spells them.
use Rattle.std.specs.Prelude.{ℕ, suc, ◌+◌, ◌/◌, ◌%◌, ◌==◌, nat_lt, Bool, if◌then◌else◌, List, [], ◌∷◌, ◌++◌, codes, ℤ, pos, negsuc}
use Rattle.std.specs.Fmt.{decimal}
use Rattle.ass_num.specs.Bytes.{colon, minus, point, ampersand, upper_h}
use Rattle.ass_num.specs.declared.colour.Rgba.{Rgba}

-- the last decimal digit of a number
abbrev pub digit : ℕ → ℕ
digit n = 48 + n % 10

abbrev pub two_digits : ℕ → List ℕ
two_digits n = digit (n / 10) ∷ digit n ∷ []

abbrev pub three_digits : ℕ → List ℕ
three_digits n = digit (n / 100) ∷ two_digits n

-- A point and what stands behind it, of so many thousandths below 1,000: no digit is a zero at the end, and for 0 there is no point.
abbrev pub fraction_text : ℕ → List ℕ
fraction_text n =
    if n == 0 then []
    else if n % 100 == 0 then point ∷ digit (n / 100) ∷ []
    else if n % 10 == 0 then point ∷ two_digits (n / 10)
    else point ∷ three_digits n

abbrev pub thousandths_text : ℕ → List ℕ
thousandths_text n = decimal (n / 1000) ++ fraction_text (n % 1000)

-- a number in thousandths
abbrev pub milli_text : ℤ → List ℕ
milli_text (pos n) = thousandths_text n
milli_text (negsuc n) = minus ∷ thousandths_text (suc n)

-- a digit of base 16
abbrev pub hex_digit : ℕ → ℕ
hex_digit d = if nat_lt d 10 then 48 + d else 55 + d

abbrev pub byte_text : ℕ → List ℕ
byte_text b = hex_digit (b / 16) ∷ hex_digit (b % 16) ∷ []

-- `&H` and eight digits: alpha, blue, green and red
abbrev pub colour_text : Rgba → List ℕ
colour_text c = ampersand ∷ upper_h ∷ byte_text c.a ++ byte_text c.b ++ byte_text c.g ++ byte_text c.r

abbrev pub flag_text : Bool → List ℕ
flag_text b = if b then codes "-1" else codes "0"

-- so many milliseconds in hours, minutes, seconds and hundredths
abbrev pub time_text : ℕ → List ℕ
time_text t = decimal (t / 3600000) ++ colon ∷ two_digits (t / 60000 % 60) ++ colon ∷ two_digits (t / 1000 % 60) ++ point ∷ two_digits (t / 10 % 100)
