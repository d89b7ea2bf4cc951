-- Public: the numbers and operators that DICTs and charstrings are made of (Adobe Technical Note 5176, "DICT Data"; 5177, "Charstring Number Encoding").
use Rattle.std.specs.Prelude.{ℕ, ◌+◌, ◌-◌, ◌*◌, ◌==◌, nat_lt, if◌then◌else◌, List, Option, Some, None, ℤ, pos, neg_ℤ, ◌-ℤ◌}
use Rattle.ass_num.specs.Limits.{IsWithin}
use Rattle.font_bytes.specs.Bytes.{u8_at, u32_at, s16_at, with_sign}
use Rattle.cff_font.specs.declared.tokens.Token.{Token}
use Rattle.cff_font.specs.declared.tokens.Token.TheVariants.{Number, Operator}

-- the number of four bytes with a sign
unfoldable pub s32_at : List ℕ → ℕ → ℤ
s32_at bytes i = with_sign 2147483648 (u32_at bytes i)

-- a number that ends before `behind`; there is none where its bytes aren't all before `stop`
abbrev pub number_before : ℕ → ℕ → ℤ → Option Token
number_before stop behind value = if nat_lt stop behind then None else Some (Number value behind)

-- the number of the byte b and the one behind it, where b begins with `first`
abbrev pub two_byte_number : ℕ → ℕ → ℕ → ℕ
two_byte_number first b low = (b - first) * 256 + low + 108

-- the whole number at a place, whose first byte is b
abbrev pub whole_number : List ℕ → ℕ → ℕ → ℕ → Option Token
whole_number bytes stop at b =
    if b == 28 then number_before stop (at + 3) (s16_at bytes (at + 1))
    else if nat_lt b 32 then None
    else if nat_lt b 247 then number_before stop (at + 1) (pos b -ℤ pos 139)
    else if nat_lt b 251 then number_before stop (at + 2) (pos (two_byte_number 247 b (u8_at bytes (at + 1))))
    else if nat_lt b 255 then number_before stop (at + 2) (neg_ℤ (pos (two_byte_number 251 b (u8_at bytes (at + 1)))))
    else None

-- operators of two bytes, of which the first is 12, are numbered from here on
abbrev pub escape_base : ℕ
escape_base = 3072

-- the operator at a place, whose first byte is b
abbrev pub operator_at : List ℕ → ℕ → ℕ → ℕ → Option Token
operator_at bytes stop at b =
    if b == 12 then (if nat_lt stop (at + 2) then None else Some (Operator (escape_base + u8_at bytes (at + 1)) (at + 2)))
    else Some (Operator b (at + 1))

-- the place behind a number or an operator
abbrev pub behind_token : Token → ℕ
behind_token (Number value behind) = behind
behind_token (Operator code behind) = behind

-- A whole number of at most two bytes, or an operator. This bounds what a charstring has.
abbrev pub max_short : ℕ
max_short = 32768

abbrev pub IsShortToken : Token → Type 0
IsShortToken (Number value behind) = IsWithin max_short value
IsShortToken (Operator code behind) = Unit {0}
