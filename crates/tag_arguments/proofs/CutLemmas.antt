-- The bracket at the front of a text.
use Rattle.std.proofs.Common.{◌≡◌, ◌≢◌, ℕ, cond, List, [], ◌∷◌, ap, refl, inl, inr, Option, None, Some, MatchOption, Bor}
use Rattle.std.specs.Option.{option_copied}
use Rattle.std.proofs.lemmas.Bool.{cases_eq, ne_eqb}
use Rattle.tag_arguments.specs.Cuts.{after_bracket}

-- what no `(` begins has no brackets
pub no_bracket : (text : List ℕ) → ((rest : List ℕ) → text ≢ 40 ∷ rest) → after_bracket text ≡ None
no_bracket [] h = refl
no_bracket (c ∷ text) h = elim (cases_eq c 40) [
  | inl same ↦ absurd (h text (ap (λ z. z ∷ text) same))
  | inr other ↦ ap (λ b. cond b (Some text) None) (ne_eqb c 40 other)
]

pub bracket_cases : (text : List ℕ) (r : Option (Bor (List ℕ))) → MatchOption r ((rest : List ℕ) → text ≢ 40 ∷ rest) (λ x. text ≡ 40 ∷ x.now) → option_copied r ≡ after_bracket text
bracket_cases text None h = sym_none text h
  where
    sym_none : (text : List ℕ) → ((rest : List ℕ) → text ≢ 40 ∷ rest) → None ≡ after_bracket text
    sym_none text h = let e = no_bracket text h in cc
bracket_cases text (Some x) h = let e = ap after_bracket h in cc
