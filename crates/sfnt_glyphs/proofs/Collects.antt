-- Items read one after another.
use Rattle.std.proofs.Common.{◌≡◌, ℕ, suc, ◌+◌, ◌-◌, ◌<◌, ◌≤◌, List, [], ◌∷◌, ◌++◌, Option, Some, None, sym, ap, ◌∙◌, arith}
use Rattle.std.specs.Prelude.{option_and_then}
use Rattle.sfnt_glyphs.specs.Glyphs.{collected}

collected-step : {S B : Type 0} (step : ℕ → S → Option S) (item : ℕ → S → B) (n k : ℕ) (s : S) (items : List B) (next : Option S) → k < n → next ≡ step k s →
    option_and_then (λ t. collected step item (k + 1) (n - (k + 1)) t (items ++ item k t ∷ [])) next ≡ collected step item k (n - k) s items
collected-step step item n k s items next less here =
    let left : n - k ≡ suc (n - (k + 1)) = omega arith in
    ap (λ o. option_and_then (λ t. collected step item (k + 1) (n - (k + 1)) t (items ++ item k t ∷ [])) o) here
    ∙ sym (ap (λ m. collected step item k m s items) left)

pub collected-next : {S B : Type 0} (step : ℕ → S → Option S) (item : ℕ → S → B) (n k : ℕ) (s t : S) (items : List B) → k < n → Some t ≡ step k s →
    collected step item (k + 1) (n - (k + 1)) t (items ++ item k t ∷ []) ≡ collected step item k (n - k) s items
collected-next step item n k s t items less here = collected-step step item n k s items (Some t) less here

pub collected-broken : {S B : Type 0} (step : ℕ → S → Option S) (item : ℕ → S → B) (n k : ℕ) (s : S) (items : List B) → k < n → None ≡ step k s → collected step item k (n - k) s items ≡ None
collected-broken step item n k s items less here = sym (collected-step step item n k s items None less here)

pub collected-all : {S B : Type 0} (step : ℕ → S → Option S) (item : ℕ → S → B) (n k : ℕ) (s : S) (items : List B) → n ≤ k → collected step item k (n - k) s items ≡ Some (s, items)
collected-all step item n k s items whole = let left : n - k ≡ 0 = omega arith in ap (λ m. collected step item k m s items) left
