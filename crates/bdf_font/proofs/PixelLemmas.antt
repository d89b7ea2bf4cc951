-- Whether one of the first numbers passes a test.
use Rattle.std.proofs.Common.{◌≡◌, ◌∙◌, sym, ap, ap₂, ℕ, ◌+◌, ◌<◌, Bool, true, false, ◌||◌, [], ◌∷◌, map, arith}
use Rattle.std.specs.List.{list_any, range_with_len}
use Rattle.std.proofs.lemmas.List.{map-id}
use Rattle.std.proofs.lemmas.List.Folds.{list_any-append, list_any_at}
use Rattle.std.proofs.lemmas.List.FromFn.{get_or-range_with_len, length-range_with_len, map-range_with_len_more}

pub any_more : (p : ℕ → Bool) (n : ℕ) → list_any p (range_with_len 0 n) ≡ false → p n ≡ false → list_any p (range_with_len 0 (n + 1)) ≡ false
any_more p n none here =
    ap (list_any p) (sym (map-id (range_with_len 0 (n + 1))) ∙ map-range_with_len_more (λ (k : ℕ). k) 0 n n (omega arith))
    ∙ list_any-append p (map (λ (k : ℕ). k) (range_with_len 0 n)) (n ∷ [])
    ∙ ap₂ (λ a b. a || (b || false)) (ap (list_any p) (map-id (range_with_len 0 n)) ∙ none) here

pub any_at : (p : ℕ → Bool) (n i : ℕ) → i < n → p i ≡ true → list_any p (range_with_len 0 n) ≡ true
any_at p n i within here =
    list_any_at p (range_with_len 0 n) i 0 (omega (arith, length-range_with_len 0 n)) (ap p (get_or-range_with_len 0 n i 0 within ∙ omega arith) ∙ here)
