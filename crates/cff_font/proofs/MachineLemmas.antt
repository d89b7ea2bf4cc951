-- A call of a subroutine.
use Rattle.std.proofs.Common.{◌≡◌, ℕ, ◌<◌, ℤ, ◌≤ℤ◌, rules, true, false, cond, List, length, Some, None, sym, ap, ◌∙◌, arith}
use Rattle.std.specs.Prelude.{◌||◌, ◌==◌, nat_le, option_map, pos, ◌+ℤ◌, unsigned_abs, int_le}
use Rattle.std.specs.Int.{int_div_euclid, int_rem_euclid}
use Rattle.std.specs.Ordering.{int_eq}
use Rattle.std.proofs.lemmas.Bool.Decides.{nat_tests}
use Rattle.cff_font.specs.declared.indexes.Index.{Index}
use Rattle.cff_font.specs.declared.machine.Machine.{Machine}
use Rattle.cff_font.specs.declared.tokens.Span.{Span}
use Rattle.cff_font.specs.Indexes.{item_at}
use Rattle.cff_font.specs.Machines.{bias_of, called, in_subroutine, max_calls, numbered_item, operand_before_last, subroutine_named}

pub called-there : (bytes : List ℕ) (index : Index) (m : Machine) (body : Span) → 0 < length m.operands → length m.calls < max_calls
    → Some body ≡ subroutine_named bytes index (operand_before_last m.operands 0) → Some (in_subroutine m body) ≡ called bytes index m
called-there bytes index m body some few here =
    let named = option_map (in_subroutine m) (subroutine_named bytes index (operand_before_last m.operands 0)) in
    let counts : (length m.operands == 0) ≡ false = grind (arith, nat_tests) in
    let goes : nat_le max_calls (length m.calls) ≡ false = grind (arith, nat_tests) in
    ap (option_map (in_subroutine m)) here
    ∙ sym (ap (λ b. cond (b || nat_le max_calls (length m.calls)) None named) counts ∙ ap (λ b. cond b None named) goes)

pub named-there : (bytes : List ℕ) (index : Index) (z k : ℤ) → int_rem_euclid z (pos 65536) ≡ pos 0 → k ≡ int_div_euclid z (pos 65536) +ℤ pos (bias_of index.count) → pos 0 ≤ℤ k
    → item_at bytes index (unsigned_abs k) ≡ subroutine_named bytes index z
named-there bytes index z k whole is least =
    let tells : int_le (pos 0) k ≡ true = search rules in
    let item = numbered_item bytes index (int_div_euclid z (pos 65536) +ℤ pos (bias_of index.count)) in
    sym (ap (λ r. cond (int_eq r (pos 0)) item None) whole ∙ (ap (numbered_item bytes index) (sym is) ∙ ap (λ b. cond b (item_at bytes index (unsigned_abs k)) None) tells))
