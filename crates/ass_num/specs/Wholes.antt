-- Public: the whole number that a text is.
use Rattle.std.specs.Prelude.{◌≡◌, ℕ, ◌↔◌, ◌&&◌, nat_lt, nat_le, if◌then◌else◌, List, length, take, drop, Option, Some, None, ℤ}
use Rattle.std.specs.List.{prefix_len, list_all}
use Rattle.ass_num.specs.Limits.{max_whole}
use Rattle.ass_num.specs.Numerals.{is_blank, is_decimal, sign_len, number_of, signed, IsWholeNumber}

-- the number that digits say under a sign, where there is a digit, the number has 31 bits, and blanks alone follow
abbrev pub whole_under : List ℕ → List ℕ → List ℕ → Option ℤ
whole_under sign digits rest =
    if nat_lt 0 (length digits) && (nat_le (number_of 10 digits) max_whole && list_all is_blank rest)
    then Some (signed sign (number_of 10 digits)) else None

-- the same behind the sign
abbrev pub whole_behind : List ℕ → List ℕ → Option ℤ
whole_behind sign text = whole_under sign (take (prefix_len is_decimal text) text) (drop (prefix_len is_decimal text) text)

-- a sign or none, digits, and blanks
abbrev pub whole_at : List ℕ → Option ℤ
whole_at text = whole_behind (take (sign_len text) text) (drop (sign_len text) text)

-- the whole number that a text is, between blanks, where it has 31 bits under its sign
unfoldable pub whole_of : List ℕ → Option ℤ
whole_of text = whole_at (drop (prefix_len is_blank text) text)

-- A text is a whole number exactly where it has the shape of one.
abbrev pub WholesAreRead : Type 0
WholesAreRead = (text : List ℕ) (n : ℤ) → (whole_of text ≡ Some n) ↔ IsWholeNumber text n
