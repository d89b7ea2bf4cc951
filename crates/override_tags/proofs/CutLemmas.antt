-- Where tags begin.
use Rattle.std.proofs.Common.{◌≡◌, ◌≢◌, ℕ, ◌<◌, List, [], ◌∷◌, length, get_or, drop, ap, sym, subst, drop-cons, refl, inl, inr}
use Rattle.std.proofs.lemmas.Bool.{cases_lt}
use Rattle.std.proofs.lemmas.List.{drop_all}
use Rattle.override_tags.specs.Tags.{BeginsTag}

-- from a `\\` on, or from the end
pub begins_drop : (text : List ℕ) (k : ℕ) → (k < length text → get_or text k 0 ≡ 92) → BeginsTag (drop k text)
begins_drop text k stops = elim (cases_lt k (length text)) [
  | inl more ↦ let P : List ℕ → Type 0 = λ z. BeginsTag z in subst P (sym (drop-cons text k 0 more)) (stops more)
  | inr end ↦ let P : List ℕ → Type 0 = λ z. BeginsTag z in subst P (sym (drop_all k text end)) tt
]

-- a text without a `\\` at its front, where it can only begin with one, is empty
pub begins_none : (text : List ℕ) → BeginsTag text → ((rest : List ℕ) → text ≢ 92 ∷ rest) → text ≡ []
begins_none [] b h = refl
begins_none (c ∷ text) b h = absurd (h text (ap (λ z. z ∷ text) b))
