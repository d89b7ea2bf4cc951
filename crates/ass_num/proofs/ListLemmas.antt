-- Lists that are joined number by number.
use Rattle.std.proofs.Common.{◌≡◌, ℕ, ◌+◌, List, [], ◌∷◌, ◌++◌, flat_map, sym, ap, ◌∙◌, arith}
use Rattle.std.specs.List.{range_with_len}
use Rattle.std.proofs.lemmas.List.{flat_map_more, map-id}
use Rattle.std.proofs.lemmas.List.FromFn.{map-range_with_len_more}

range_more : (n : ℕ) → range_with_len 0 (n + 1) ≡ range_with_len 0 n ++ n ∷ []
range_more n =
    sym (map-id (range_with_len 0 (n + 1))) ∙ map-range_with_len_more (λ (k : ℕ). k) 0 n n (omega arith)
    ∙ ap (λ r. r ++ n ∷ []) (map-id (range_with_len 0 n))

-- what one more number adds
pub flat_more : {X : Type 0} (f : ℕ → List X) (old now new : List X) (n : ℕ) → now ≡ old ++ flat_map f (range_with_len 0 n) → new ≡ now ++ f n → new ≡ old ++ flat_map f (range_with_len 0 (n + 1))
flat_more f old now new n was is =
    is ∙ ap (λ xs. xs ++ f n) was ∙ flat_map_more f old (range_with_len 0 n) n ∙ ap (λ r. old ++ flat_map f r) (sym (range_more n))
