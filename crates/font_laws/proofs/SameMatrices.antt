-- Files that agree on a table of PostScript outlines have the same matrices of DICTs in it.
use Rattle.std.proofs.Common.{◌≡◌, ℕ, zero, suc, ◌+◌, ◌-◌, ◌<◌, ◌≤◌, List, Bool, true, false, cond, Option, Some, None, ℤ, refl, ap, sym, subst, ◌∙◌, arith}
use Rattle.std.specs.Prelude.{nat_le, ◌==◌, IfSome, option_map}
use Rattle.std.proofs.lemmas.Bool.{eqb-true, leb-false}
use Rattle.font_bytes.specs.Bytes.{u8_at}
use Rattle.cff_font.specs.declared.decimals.Decimal.{Decimal}
use Rattle.cff_font.specs.declared.dicts.Operands.{Operands}
use Rattle.cff_font.specs.declared.tokens.Span.{Span}
use Rattle.cff_font.specs.declared.tokens.Token.{Token}
use Rattle.cff_font.specs.declared.tokens.Token.TheVariants.{Number, Operator}
use Rattle.cff_font.specs.Dicts.{behind_real, dict_token, dict_token_of, dict_tokens, ends_real, no_operands, operands_in, operands_of, real_number, token_and}
use Rattle.cff_font.specs.Matrices.{decimal_at, decimal_by_token, dict_matrix, matrix_at, matrix_code, matrix_if}
use Rattle.cff_font.specs.Reals.{ExactReal, byte_read, bytes_read, first_real, real_between, value_of_real}
use Rattle.cff_font.specs.Tokens.{behind_token}
use Rattle.font_laws.specs.Laws.{AgreeOn}
use Rattle.font_laws.proofs.Agreed.{AreOne, IsAny, any_of, if_same, map_one, then_one, u8_same}
use Rattle.font_laws.proofs.SameIndexes.{IsSpanFrom, IsTokenBehind, dict_token_one, operands_same}

-- ---- real numbers

bytes_read_same : (a b : List ℕ) (from to n at : ℕ) (real : ExactReal) → AgreeOn a b from to → from ≤ at → at + n ≤ to → bytes_read a n at real ≡ bytes_read b n at real
bytes_read_same a b from to zero at real h low room = refl
bytes_read_same a b from to (suc n) at real h low room =
    bytes_read_same a b from to n (at + 1) (byte_read real (u8_at a at)) h (omega (arith, low)) (omega (arith, room))
    ∙ ap (λ byte. bytes_read b n (at + 1) (byte_read real byte)) (u8_same a b from to at h low (omega (arith, room)))

real_same : (a b : List ℕ) (from to at behind : ℕ) → AgreeOn a b from to → from ≤ at → at ≤ to → behind ≤ to → real_between a at behind ≡ real_between b at behind
real_same a b from to at behind h low inside short =
    ap value_of_real (bytes_read_same a b from to (behind - at) at first_real h low (omega (arith, inside, short)))

behind_real_short : (bytes : List ℕ) (n at to : ℕ) → at + n ≤ to → IfSome (behind_real bytes n at) (λ place. place ≤ to)
behind_real_short bytes zero at to room = tt
behind_real_short bytes (suc n) at to room = either (ends_real (u8_at bytes at)) (behind_real_short bytes n (at + 1) to (omega (arith, room)))
  where
    either : (c : Bool) → IfSome (behind_real bytes n (at + 1)) (λ place. place ≤ to) → IfSome (cond c (Some (at + 1)) (behind_real bytes n (at + 1))) (λ place. place ≤ to)
    either true rest = omega (arith, room)
    either false rest = rest

real_number_short : (to : ℕ) (o : Option ℕ) → IfSome o (λ place. place ≤ to) → IfSome (option_map real_number o) (λ token. behind_token token ≤ to)
real_number_short to None h = tt
real_number_short to (Some place) h = h

real_short : (bytes : List ℕ) (stop to at : ℕ) → stop ≤ to → at < stop → (u8_at bytes at == 30) ≡ true → IfSome (dict_token_of bytes stop at (u8_at bytes at)) (λ token. behind_token token ≤ to)
real_short bytes stop to at short less is =
    subst (λ n. IfSome (dict_token_of bytes stop at n) (λ token. behind_token token ≤ to)) (sym (eqb-true (u8_at bytes at) 30 is))
    (real_number_short to _ (behind_real_short bytes (stop - (at + 1)) (at + 1) to (omega (arith, short, less))))

-- ---- numbers of a DICT

-- a number or operator whose bytes lie where the files agree
record IsTokenIn (bytes : List ℕ) (from to at : ℕ) (token : Token) : Type 0 where
  behind : IsTokenBehind from token
  inside : at < to
  real : (u8_at bytes at == 30) ≡ true → behind_token token ≤ to

found_in : (bytes : List ℕ) (from to at : ℕ) (o : Option Token) → at < to → IfSome o (IsTokenBehind from) → ((u8_at bytes at == 30) ≡ true → IfSome o (λ token. behind_token token ≤ to)) →
    IfSome o (IsTokenIn bytes from to at)
found_in bytes from to at None inside behind real = tt
found_in bytes from to at (Some token) inside behind real = record { behind = behind; inside = inside; real = real }

token_in : (bytes : List ℕ) (from to stop at : ℕ) → stop ≤ to → IfSome (dict_token bytes stop at) (IsTokenBehind from) → IfSome (dict_token bytes stop at) (IsTokenIn bytes from to at)
token_in bytes from to stop at short behind = either (nat_le stop at) refl behind
  where
    either : (c : Bool) → nat_le stop at ≡ c → IfSome (cond c None (dict_token_of bytes stop at (u8_at bytes at))) (IsTokenBehind from) →
        IfSome (cond c None (dict_token_of bytes stop at (u8_at bytes at))) (IsTokenIn bytes from to at)
    either true e behind = tt
    either false e behind =
        let less : at < stop = leb-false stop at e in
        found_in bytes from to at _ (omega (arith, less, short)) behind (real_short bytes stop to at short less)

abbrev IsDecimalBehind : ℕ → Decimal → Type 0
IsDecimalBehind from decimal = from ≤ decimal.behind

abbrev some_decimal : ℕ → ℤ → Option Decimal
some_decimal behind value = Some (record { value = value; behind = behind })

decimal_by_token_one : (a b : List ℕ) (from to at : ℕ) (o p : Option Token) → AgreeOn a b from to → from ≤ at → AreOne (IsTokenIn a from to at) o p → AreOne (IsDecimalBehind from) (decimal_by_token a at o) (decimal_by_token b at p)
decimal_by_token_one a b from to at None p h low one = record { same = ap (decimal_by_token b at) one.same; holds = tt }
decimal_by_token_one a b from to at (Some (Operator code behind)) p h low one = record { same = ap (decimal_by_token b at) one.same; holds = tt }
decimal_by_token_one a b from to at (Some (Number value behind)) p h low one =
    let inside : at < to = one.holds.inside in
    let byte = u8_same a b from to at h low (omega (arith, inside)) in
    record {
      same = ap (some_decimal behind) (if_same (u8_at a at == 30) (u8_at b at == 30) (ap (λ n. n == 30) byte) (λ is. real_same a b from to (at + 1) behind h (omega (arith, low)) (omega (arith, inside)) (one.holds.real is)) (λ _. refl))
          ∙ ap (decimal_by_token b at) one.same;
      holds = one.holds.behind;
    }

decimal_one : (a b : List ℕ) (from to stop at : ℕ) → AgreeOn a b from to → from ≤ at → stop ≤ to → AreOne (IsDecimalBehind from) (decimal_at a stop at) (decimal_at b stop at)
decimal_one a b from to stop at h low short =
    let one = dict_token_one a b from to stop at h low short in
    decimal_by_token_one a b from to at (dict_token a stop at) (dict_token b stop at) h low (record { same = one.same; holds = token_in a from to stop at short one.holds })

-- ---- where operands begin

abbrev AreOperandsBehind : ℕ → Operands → Type 0
AreOperandsBehind from operands = from ≤ operands.from

operands_behind_token : (from code : ℕ) (operands : Operands) (o : Option Token) (rest : ℕ → List Token) → IfSome o (IsTokenBehind from) → from ≤ operands.from →
    ((next : Operands) (place : ℕ) → from ≤ next.from → from ≤ place → IfSome (operands_in code next (rest place)) (AreOperandsBehind from)) → IfSome (operands_in code operands (token_and rest o)) (AreOperandsBehind from)
operands_behind_token from code operands None rest is low step = tt
operands_behind_token from code operands (Some (Number value behind)) rest is low step = step (record { from = operands.from; before = operands.last; last = value }) behind low is
operands_behind_token from code operands (Some (Operator other behind)) rest is low step = either (other == code)
  where
    either : (c : Bool) → IfSome (cond c (Some operands) (operands_in code (no_operands behind) (rest behind))) (AreOperandsBehind from)
    either true = low
    either false = step (no_operands behind) behind is is

operands_low : (a b : List ℕ) (from to stop code n at : ℕ) (operands : Operands) → AgreeOn a b from to → from ≤ at → stop ≤ to → from ≤ operands.from →
    IfSome (operands_in code operands (dict_tokens a stop n at)) (AreOperandsBehind from)
unfolding dict_tokens
operands_low a b from to stop code zero at operands h low short behind = tt
operands_low a b from to stop code (suc n) at operands h low short behind =
    operands_behind_token from code operands (dict_token a stop at) (dict_tokens a stop n) (dict_token_one a b from to stop at h low short).holds behind
    (λ next place next_behind place_behind. operands_low a b from to stop code n place next h place_behind short next_behind)

operands_one : (a b : List ℕ) (from to : ℕ) (dict : Span) (code : ℕ) → AgreeOn a b from to → IsSpanFrom from to dict → AreOne (AreOperandsBehind from) (operands_of a dict code) (operands_of b dict code)
operands_one a b from to dict code h is = record {
  same = operands_same a b from to dict code h is;
  holds = operands_low a b from to dict.to code (dict.to - dict.from) dict.from (no_operands dict.from) h is.low is.high is.low;
}

-- ---- matrices

matrix_one : (a b : List ℕ) (from to stop at : ℕ) → AgreeOn a b from to → from ≤ at → stop ≤ to → AreOne IsAny (matrix_at a stop at) (matrix_at b stop at)
matrix_one a b from to stop at h low short =
    let P = IsDecimalBehind from in
    then_one P IsAny _ _ _ _ (decimal_one a b from to stop at h low short) (λ xx xx_low.
    then_one P IsAny _ _ _ _ (decimal_one a b from to stop xx.behind h xx_low short) (λ yx yx_low.
    then_one P IsAny _ _ _ _ (decimal_one a b from to stop yx.behind h yx_low short) (λ xy xy_low.
    then_one P IsAny _ _ _ _ (decimal_one a b from to stop xy.behind h xy_low short) (λ yy yy_low.
    then_one P IsAny _ _ _ _ (decimal_one a b from to stop yy.behind h yy_low short) (λ x x_low.
    map_one P IsAny _ _ _ (decimal_one a b from to stop x.behind h x_low short) (λ y _. tt))))))

pub dict_matrix_same : (a b : List ℕ) (from to : ℕ) (dict : Span) → AgreeOn a b from to → IsSpanFrom from to dict → dict_matrix a dict ≡ dict_matrix b dict
dict_matrix_same a b from to dict h is =
    (then_one (AreOperandsBehind from) IsAny _ _ _ _ (operands_one a b from to dict matrix_code h is) (λ operands behind.
    then_one IsAny IsAny _ _ matrix_if matrix_if (matrix_one a b from to dict.to operands.from h behind is.high) (λ m _. record { same = refl; holds = any_of (matrix_if m) }))).same
