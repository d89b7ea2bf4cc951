-- Public: DICTs, as the list of their numbers and operators (Adobe Technical Note 5176, "DICT Data").
use Rattle.std.specs.Prelude.{ℕ, zero, suc, ◌+◌, ◌-◌, ◌%◌, Bool, ◌||◌, ◌==◌, nat_lt, nat_le, if◌then◌else◌, List, [], ◌∷◌, Option, Some, None, option_map, pos}
use Rattle.font_bytes.specs.Bytes.{u8_at}
use Rattle.cff_font.specs.declared.tokens.Span.{Span}
use Rattle.cff_font.specs.declared.tokens.Token.{Token}
use Rattle.cff_font.specs.declared.tokens.Token.TheVariants.{Number, Operator}
use Rattle.cff_font.specs.declared.dicts.Operands.{Operands}
use Rattle.cff_font.specs.Tokens.{s32_at, number_before, whole_number, operator_at, behind_token}

-- whether a byte is the last of a real number: one of its halves is 15
abbrev pub ends_real : ℕ → Bool
ends_real b = nat_le 240 b || (b % 16 == 15)

-- the place behind a real number whose bytes go on at a place, with n bytes up to the end of the DICT
abbrev pub behind_real : List ℕ → ℕ → ℕ → Option ℕ
behind_real bytes zero at = None
behind_real bytes (suc n) at = if ends_real (u8_at bytes at) then Some (at + 1) else behind_real bytes n (at + 1)

-- a real number, which counts as 0 but in a matrix
abbrev pub real_number : ℕ → Token
real_number behind = Number (pos 0) behind

-- the number or operator at a place of a DICT that ends at `stop`, whose first byte is b
abbrev pub dict_token_of : List ℕ → ℕ → ℕ → ℕ → Option Token
dict_token_of bytes stop at b =
    if nat_lt b 22 then operator_at bytes stop at b
    else if b == 29 then number_before stop (at + 5) (s32_at bytes (at + 1))
    else if b == 30 then option_map real_number (behind_real bytes (stop - (at + 1)) (at + 1))
    else whole_number bytes stop at b

abbrev pub dict_token : List ℕ → ℕ → ℕ → Option Token
dict_token bytes stop at = if nat_le stop at then None else dict_token_of bytes stop at (u8_at bytes at)

-- a number or operator, and what follows it; nothing follows a broken one
abbrev pub token_and : (ℕ → List Token) → Option Token → List Token
token_and rest None = []
token_and rest (Some token) = token ∷ rest (behind_token token)

-- the numbers and operators from a place on, at most n of them, up to the first that is broken
unfoldable pub dict_tokens : List ℕ → ℕ → ℕ → ℕ → List Token
dict_tokens bytes stop zero at = []
dict_tokens bytes stop (suc n) at = token_and (dict_tokens bytes stop n) (dict_token bytes stop at)

-- none yet, from a place on
abbrev pub no_operands : ℕ → Operands
no_operands from = record { from = from; before = pos 0; last = pos 0 }

-- the place where the operands of the first operator of this kind begin, and the last two numbers before it, 0 for a missing one, where others were read before
abbrev pub operands_in : ℕ → Operands → List Token → Option Operands
operands_in code operands [] = None
operands_in code operands (Number value behind ∷ tokens) = operands_in code (record { from = operands.from; before = operands.last; last = value }) tokens
operands_in code operands (Operator other behind ∷ tokens) = if other == code then Some operands else operands_in code (no_operands behind) tokens

-- where the operands of an operator of a DICT begin, and the last two of them
abbrev pub operands_of : List ℕ → Span → ℕ → Option Operands
operands_of bytes dict code = operands_in code (no_operands dict.from) (dict_tokens bytes dict.to (dict.to - dict.from) dict.from)
