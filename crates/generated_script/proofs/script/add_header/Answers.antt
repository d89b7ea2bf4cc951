use Rattle.std.proofs.Common.{◌≡◌, ℕ, List, ◌++◌, ◌∙◌, ap, append_assoc}
use Rattle.generated_script.proofs.script.add_header.Goals as goal

three : (old n1 n2 n3 a b d : List ℕ) → n1 ≡ old ++ a → n2 ≡ n1 ++ b → n3 ≡ n2 ++ d → n3 ≡ old ++ (a ++ (b ++ d))
three old n1 n2 n3 a b d e1 e2 e3 = e3 ∙ ap (λ z. z ++ d) (e2 ∙ ap (λ z. z ++ b) e1) ∙ simp append_assoc

pub returns : goal.returns
returns c = three _ _ _ _ _ _ _ c.in_ok-extend_from_slice.ensures.items c.in_ok-extend_from_slice-2.ensures.items c.in_ok-extend_from_slice-3.ensures.items
