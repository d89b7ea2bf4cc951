-- Public: the numbers that texts say, as functions of the texts.
use Rattle.std.specs.Prelude.{ℕ, ◌+◌, ◌*◌, ◌/◌, ◌%◌, ◌^◌, min, ◌==◌, nat_lt, ◌&&◌, if◌then◌else◌, List, length, take, drop, slice_index, Option, Some, None, ℤ, pos}
use Rattle.std.specs.List.{prefix_len}
use Rattle.std.specs.Option.{option_map}
use Rattle.std.specs.Int.{int_rem_euclid}
use Rattle.std.specs.Int.RustNames.{unsigned_abs}
use Rattle.ass_num.specs.Bytes.{point}
use Rattle.ass_num.specs.Limits.{max_held}
use Rattle.ass_num.specs.Numerals.{is_blank, is_decimal, is_hexadecimal, is_mark, sign_len, number_of, signed, is_hex_start}

-- ---- thousandths at the front of a text, held at a million

-- w digits alone
abbrev pub plain_decimal : List ℕ → ℕ → Option ℕ
plain_decimal text w = if w == 0 then None else Some (min (number_of 10 (take w text) * 1000) max_held)

-- w digits, a point and f digits
abbrev pub pointed_decimal : List ℕ → ℕ → ℕ → Option ℕ
pointed_decimal text w f =
    if w + f == 0 then None
    else Some (min (number_of 10 (take w text) * 1000 + number_of 10 (take f (drop (w + 1) text)) * 1000 / 10 ^ f) max_held)

abbrev pub decimal_from : List ℕ → ℕ → Option ℕ
decimal_from text w =
    if nat_lt w (length text) && (slice_index text w == point) then pointed_decimal text w (prefix_len is_decimal (drop (w + 1) text))
    else plain_decimal text w

abbrev pub decimal_of : List ℕ → Option ℕ
decimal_of text = decimal_from text (prefix_len is_decimal text)

abbrev pub milli_behind : List ℕ → ℕ → Option ℤ
milli_behind text s = option_map (signed (take s text)) (decimal_of (drop s text))

-- the number at the front of a text, in thousandths cut toward zero
unfoldable pub milli_of : List ℕ → Option ℤ
milli_of text = milli_behind text (sign_len text)

-- ---- colours of styles

-- m marks and d hexadecimal digits
abbrev pub hex_colour_in : List ℕ → ℕ → ℕ → Option ℕ
hex_colour_in code m d = if d == 0 then None else Some (number_of 16 (take d (drop m code)) % 2 ^ 32)

abbrev pub hex_colour_from : List ℕ → ℕ → Option ℕ
hex_colour_from code m = hex_colour_in code m (prefix_len is_hexadecimal (drop m code))

-- a sign of s bytes and d digits, modulo 2 ^ 32
abbrev pub decimal_colour_in : List ℕ → ℕ → ℕ → Option ℕ
decimal_colour_in code s d = if d == 0 then None else Some (unsigned_abs (int_rem_euclid (signed (take s code) (number_of 10 (take d (drop s code)))) (pos (2 ^ 32))))

abbrev pub decimal_colour_from : List ℕ → ℕ → Option ℕ
decimal_colour_from code s = decimal_colour_in code s (prefix_len is_decimal (drop s code))

abbrev pub colour_in : List ℕ → Option ℕ
colour_in code = if is_hex_start code then hex_colour_from code (prefix_len is_mark code) else decimal_colour_from code (sign_len code)

-- the colour at the front of a text: behind blanks `&H` and hexadecimal digits, or else a decimal number
unfoldable pub style_colour_of : List ℕ → Option ℕ
style_colour_of text = colour_in (drop (prefix_len is_blank text) text)
