-- Draws one after another.
use Rattle.std.proofs.Common.{◌≡◌, ℕ, zero, suc, ◌+◌, ◌*◌, List, sym, ap, ◌∙◌, arith}
use Rattle.generated_script.specs.Draws.{next_state, state_after_draws}
use Rattle.generated_script.specs.Generated.{generated_line}
use Rattle.generated_script.specs.Lines.{line_numbers, line_text}
use Rattle.generated_script.specs.declared.lines.LineNumbers.{LineNumbers}

pub states_add : (j k x : ℕ) → state_after_draws j (state_after_draws k x) ≡ state_after_draws (j + k) x
states_add zero k x =
    let e : k ≡ zero + k = omega arith in
    ap (λ m. state_after_draws m x) e
states_add (suc j) k x =
    let e : suc j + k ≡ suc (j + k) = omega arith in
    ap next_state (states_add j k x) ∙ sym (ap (λ m. state_after_draws m x) e)

-- the state behind one line more
pub line_more : (i x state next : ℕ) → state ≡ state_after_draws (6 * i) x → next ≡ state_after_draws 6 state → next ≡ state_after_draws (6 * (i + 1)) x
line_more i x state next was is =
    let e : 6 + 6 * i ≡ 6 * (i + 1) = omega arith in
    is ∙ ap (state_after_draws 6) was ∙ states_add 6 (6 * i) x ∙ ap (λ m. state_after_draws m x) e

-- the line by the numbers that were drawn for it
pub line_is : (i seed state : ℕ) (numbers : LineNumbers) (text : List ℕ) → state ≡ state_after_draws (6 * i) seed → numbers ≡ line_numbers state → text ≡ line_text i numbers → text ≡ generated_line seed i
line_is i seed state numbers text was drawn is = is ∙ ap (line_text i) (drawn ∙ ap line_numbers was)
