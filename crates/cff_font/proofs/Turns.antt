-- One turn of each loop.
use Rattle.std.proofs.Common.{◌≡◌, ℕ, suc, ◌+◌, ◌-◌, ◌*◌, ◌<◌, ◌≤◌, Bool, true, false, cond, List, [], Option, Some, None, ℤ, sym, ap, ◌∙◌, arith}
use Rattle.std.specs.Prelude.{◌&&◌, ◌==◌, nat_le, nat_lt, option_and_then}
use Rattle.std.proofs.Math.Bool.{and-false}
use Rattle.std.proofs.lemmas.Bool.Decides.{nat_tests}
use Rattle.font_bytes.specs.Bytes.{u8_at, u16_at}
use Rattle.cff_font.specs.declared.dicts.Operands.{Operands}
use Rattle.cff_font.specs.declared.machine.Machine.{Machine}
use Rattle.cff_font.specs.declared.machine.Program.{Program}
use Rattle.cff_font.specs.declared.tokens.Token.{Token}
use Rattle.cff_font.specs.declared.tokens.Token.TheVariants.{Number, Operator}
use Rattle.cff_font.specs.Dicts.{ends_real, behind_real, dict_token, dict_tokens, token_and, no_operands, operands_in}
use Rattle.cff_font.specs.Glyphs.{ends_by, is_blank_from}
use Rattle.cff_font.specs.Machines.{charstring_token, run, behind_step}
use Rattle.cff_font.specs.Subroutines.{range_dict}

pub real-spent : (bytes : List ℕ) (stop i : ℕ) → stop ≤ i → behind_real bytes (stop - i) i ≡ None
real-spent bytes stop i spent =
    let left : stop - i ≡ 0 = omega arith in
    ap (λ n. behind_real bytes n i) left

pub real-turn : (bytes : List ℕ) (stop i : ℕ) → i < stop → behind_real bytes (stop - i) i ≡ cond (ends_real (u8_at bytes i)) (Some (i + 1)) (behind_real bytes (stop - (i + 1)) (i + 1))
real-turn bytes stop i less =
    let left : stop - i ≡ suc (stop - (i + 1)) = omega arith in
    ap (λ n. behind_real bytes n i) left

pub real-next : (bytes : List ℕ) (stop i : ℕ) → i < stop → ends_real (u8_at bytes i) ≡ false → behind_real bytes (stop - (i + 1)) (i + 1) ≡ behind_real bytes (stop - i) i
real-next bytes stop i less fails =
    sym (real-turn bytes stop i less ∙ ap (λ b. cond b (Some (i + 1)) (behind_real bytes (stop - (i + 1)) (i + 1))) fails)

-- ---- the tokens of a DICT

pub tokens-spent : (bytes : List ℕ) (stop k at : ℕ) → stop ≤ k → dict_tokens bytes stop (stop - k) at ≡ []
unfolding dict_tokens
tokens-spent bytes stop k at spent =
    let left : stop - k ≡ 0 = omega arith in
    ap (λ n. dict_tokens bytes stop n at) left

pub tokens-turn : (bytes : List ℕ) (stop k at : ℕ) (token : Option Token) → k < stop → token ≡ dict_token bytes stop at →
    dict_tokens bytes stop (stop - k) at ≡ token_and (dict_tokens bytes stop (stop - (k + 1))) token
unfolding dict_tokens
tokens-turn bytes stop k at token less here =
    let left : stop - k ≡ suc (stop - (k + 1)) = omega arith in
    ap (λ n. dict_tokens bytes stop n at) left
    ∙ ap (λ t. token_and (dict_tokens bytes stop (stop - (k + 1))) t) (sym here)

operands-turn : (bytes : List ℕ) (code : ℕ) (operands : Operands) (stop k at : ℕ) (token : Option Token) → k < stop → token ≡ dict_token bytes stop at →
    operands_in code operands (dict_tokens bytes stop (stop - k) at) ≡ operands_in code operands (token_and (dict_tokens bytes stop (stop - (k + 1))) token)
operands-turn bytes code operands stop k at token less here = ap (operands_in code operands) (tokens-turn bytes stop k at token less here)

pub operands-spent : (bytes : List ℕ) (code : ℕ) (operands : Operands) (stop k at : ℕ) → stop ≤ k → operands_in code operands (dict_tokens bytes stop (stop - k) at) ≡ None
operands-spent bytes code operands stop k at spent = ap (operands_in code operands) (tokens-spent bytes stop k at spent)

pub operands-broken : (bytes : List ℕ) (code : ℕ) (operands : Operands) (stop k at : ℕ) → k < stop → None ≡ dict_token bytes stop at →
    operands_in code operands (dict_tokens bytes stop (stop - k) at) ≡ None
operands-broken bytes code operands stop k at less here = operands-turn bytes code operands stop k at None less here

pub operands-number : (bytes : List ℕ) (code : ℕ) (operands : Operands) (stop k at : ℕ) (value : ℤ) (behind : ℕ) → k < stop → Some (Number value behind) ≡ dict_token bytes stop at →
    operands_in code operands (dict_tokens bytes stop (stop - k) at) ≡ operands_in code (record { from = operands.from; before = operands.last; last = value }) (dict_tokens bytes stop (stop - (k + 1)) behind)
operands-number bytes code operands stop k at value behind less here = operands-turn bytes code operands stop k at (Some (Number value behind)) less here

operands-operator : (bytes : List ℕ) (code : ℕ) (operands : Operands) (stop k at other behind : ℕ) (same : Bool) → k < stop → Some (Operator other behind) ≡ dict_token bytes stop at → (other == code) ≡ same →
    operands_in code operands (dict_tokens bytes stop (stop - k) at) ≡ cond same (Some operands) (operands_in code (no_operands behind) (dict_tokens bytes stop (stop - (k + 1)) behind))
operands-operator bytes code operands stop k at other behind same less here is =
    operands-turn bytes code operands stop k at (Some (Operator other behind)) less here
    ∙ ap (λ b. cond b (Some operands) (operands_in code (no_operands behind) (dict_tokens bytes stop (stop - (k + 1)) behind))) is

pub operands-other : (bytes : List ℕ) (code : ℕ) (operands : Operands) (stop k at other behind : ℕ) → k < stop → Some (Operator other behind) ≡ dict_token bytes stop at → (other == code) ≡ false →
    operands_in code operands (dict_tokens bytes stop (stop - k) at) ≡ operands_in code (no_operands behind) (dict_tokens bytes stop (stop - (k + 1)) behind)
operands-other bytes code operands stop k at other behind less here is = operands-operator bytes code operands stop k at other behind false less here is

pub operands-found : (bytes : List ℕ) (code : ℕ) (operands : Operands) (stop k at other behind : ℕ) → k < stop → Some (Operator other behind) ≡ dict_token bytes stop at → (other == code) ≡ true →
    operands_in code operands (dict_tokens bytes stop (stop - k) at) ≡ Some operands
operands-found bytes code operands stop k at other behind less here is = operands-operator bytes code operands stop k at other behind true less here is

-- ---- ranges of glyphs

range-turn : (bytes : List ℕ) (g first n k : ℕ) (has : Bool) → k < n → has ≡ (nat_le (u16_at bytes (first + 3 * k)) g && nat_lt g (u16_at bytes (first + 3 * k + 3))) →
    range_dict bytes g (first + 3 * k) (n - k) ≡ cond has (Some (u8_at bytes (first + 3 * k + 2))) (range_dict bytes g (first + 3 * (k + 1)) (n - (k + 1)))
range-turn bytes g first n k has less is =
    let left : n - k ≡ suc (n - (k + 1)) = omega arith in
    let next : first + 3 * k + 3 ≡ first + 3 * (k + 1) = omega arith in
    ap (λ m. range_dict bytes g (first + 3 * k) m) left
    ∙ (ap (λ at. cond (nat_le (u16_at bytes (first + 3 * k)) g && nat_lt g (u16_at bytes (first + 3 * k + 3))) (Some (u8_at bytes (first + 3 * k + 2))) (range_dict bytes g at (n - (k + 1)))) next
    ∙ ap (λ b. cond b (Some (u8_at bytes (first + 3 * k + 2))) (range_dict bytes g (first + 3 * (k + 1)) (n - (k + 1)))) (sym is))

pub range-low : (bytes : List ℕ) (g first n k : ℕ) → k < n → g < u16_at bytes (first + 3 * k) →
    range_dict bytes g (first + 3 * (k + 1)) (n - (k + 1)) ≡ range_dict bytes g (first + 3 * k) (n - k)
range-low bytes g first n k less low =
    let fails : nat_le (u16_at bytes (first + 3 * k)) g ≡ false = grind (arith, nat_tests) in
    sym (range-turn bytes g first n k false less (ap (λ b. b && nat_lt g (u16_at bytes (first + 3 * k + 3))) (sym fails)))

pub range-high : (bytes : List ℕ) (g first n k : ℕ) → k < n → u16_at bytes (first + 3 * k + 3) ≤ g →
    range_dict bytes g (first + 3 * (k + 1)) (n - (k + 1)) ≡ range_dict bytes g (first + 3 * k) (n - k)
range-high bytes g first n k less high =
    let fails : nat_lt g (u16_at bytes (first + 3 * k + 3)) ≡ false = grind (arith, nat_tests) in
    sym (range-turn bytes g first n k false less
    (sym (and-false (nat_le (u16_at bytes (first + 3 * k)) g)) ∙ ap (λ b. nat_le (u16_at bytes (first + 3 * k)) g && b) (sym fails)))

pub blank-spent : (bytes : List ℕ) (stop k at : ℕ) → stop ≤ k → is_blank_from bytes stop (stop - k) at ≡ true
unfolding is_blank_from
blank-spent bytes stop k at spent =
    let left : stop - k ≡ 0 = omega arith in
    ap (λ n. is_blank_from bytes stop n at) left

blank-turn : (bytes : List ℕ) (stop k at : ℕ) (token : Option Token) → k < stop → at < stop → token ≡ charstring_token bytes stop at (u8_at bytes at) →
    is_blank_from bytes stop (stop - k) at ≡ ends_by (is_blank_from bytes stop (stop - (k + 1))) token
unfolding is_blank_from
blank-turn bytes stop k at token less inside here =
    let left : stop - k ≡ suc (stop - (k + 1)) = omega arith in
    let goes : nat_le stop at ≡ false = grind (arith, nat_tests) in
    ap (λ n. is_blank_from bytes stop n at) left
    ∙ (ap (λ b. cond b true (ends_by (is_blank_from bytes stop (stop - (k + 1))) (charstring_token bytes stop at (u8_at bytes at)))) goes
    ∙ ap (λ t. ends_by (is_blank_from bytes stop (stop - (k + 1))) t) (sym here))

pub blank-number : (bytes : List ℕ) (stop k at : ℕ) (value : ℤ) (behind : ℕ) → k < stop → at < stop → Some (Number value behind) ≡ charstring_token bytes stop at (u8_at bytes at) →
    is_blank_from bytes stop (stop - k) at ≡ is_blank_from bytes stop (stop - (k + 1)) behind
blank-number bytes stop k at value behind less inside here = blank-turn bytes stop k at (Some (Number value behind)) less inside here

pub blank-operator : (bytes : List ℕ) (stop k at code behind : ℕ) → k < stop → at < stop → Some (Operator code behind) ≡ charstring_token bytes stop at (u8_at bytes at) →
    is_blank_from bytes stop (stop - k) at ≡ (code == 14)
blank-operator bytes stop k at code behind less inside here = blank-turn bytes stop k at (Some (Operator code behind)) less inside here

pub blank-broken : (bytes : List ℕ) (stop k at : ℕ) → k < stop → at < stop → None ≡ charstring_token bytes stop at (u8_at bytes at) → is_blank_from bytes stop (stop - k) at ≡ true
blank-broken bytes stop k at less inside here = blank-turn bytes stop k at None less inside here

pub blank-behind_end : (bytes : List ℕ) (stop k at : ℕ) → k < stop → stop ≤ at → is_blank_from bytes stop (stop - k) at ≡ true
unfolding is_blank_from
blank-behind_end bytes stop k at less ends =
    let left : stop - k ≡ suc (stop - (k + 1)) = omega arith in
    let stops : nat_le stop at ≡ true = grind (arith, nat_tests) in
    ap (λ n. is_blank_from bytes stop n at) left
    ∙ ap (λ b. cond b true (ends_by (is_blank_from bytes stop (stop - (k + 1))) (charstring_token bytes stop at (u8_at bytes at)))) stops

-- ---- the machine

pub run-spent : (bytes : List ℕ) (program : Program) (n k : ℕ) (m : Machine) → n ≤ k → run bytes program (n - k) m ≡ None
unfolding run
run-spent bytes program n k m spent =
    let left : n - k ≡ 0 = omega arith in
    ap (λ i. run bytes program i m) left

run-turn : (bytes : List ℕ) (program : Program) (n k : ℕ) (m : Machine) → k < n →
    run bytes program (n - k) m ≡ cond m.is_done (Some m) (option_and_then (run bytes program (n - (k + 1))) (behind_step bytes program m))
unfolding run
run-turn bytes program n k m less =
    let left : n - k ≡ suc (n - (k + 1)) = omega arith in
    ap (λ i. run bytes program i m) left

pub run-done : (bytes : List ℕ) (program : Program) (n k : ℕ) (m : Machine) → k < n → m.is_done ≡ true → run bytes program (n - k) m ≡ Some m
run-done bytes program n k m less done =
    run-turn bytes program n k m less
    ∙ ap (λ b. cond b (Some m) (option_and_then (run bytes program (n - (k + 1))) (behind_step bytes program m))) done

run-goes : (bytes : List ℕ) (program : Program) (n k : ℕ) (m : Machine) (behind : Option Machine) → k < n → m.is_done ≡ false → behind ≡ behind_step bytes program m →
    run bytes program (n - k) m ≡ option_and_then (run bytes program (n - (k + 1))) behind
run-goes bytes program n k m behind less goes here =
    run-turn bytes program n k m less
    ∙ (ap (λ b. cond b (Some m) (option_and_then (run bytes program (n - (k + 1))) (behind_step bytes program m))) goes
    ∙ ap (λ o. option_and_then (run bytes program (n - (k + 1))) o) (sym here))

pub run-next : (bytes : List ℕ) (program : Program) (n k : ℕ) (m behind : Machine) → k < n → m.is_done ≡ false → Some behind ≡ behind_step bytes program m →
    run bytes program (n - k) m ≡ run bytes program (n - (k + 1)) behind
run-next bytes program n k m behind less goes here = run-goes bytes program n k m (Some behind) less goes here

pub run-broken : (bytes : List ℕ) (program : Program) (n k : ℕ) (m : Machine) → k < n → m.is_done ≡ false → None ≡ behind_step bytes program m → run bytes program (n - k) m ≡ None
run-broken bytes program n k m less goes here = run-goes bytes program n k m None less goes here
