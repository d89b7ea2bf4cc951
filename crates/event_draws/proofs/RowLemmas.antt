-- What a loop adds to a list, element by element.
use Rattle.std.proofs.Common.{◌≡◌, ℕ, ◌+◌, ◌<◌, ◌≤◌, List, ◌++◌, flat_map, length, take, get_or, sym, ap, ◌∙◌}
use Rattle.std.proofs.lemmas.List.{append-nil, take_all, take_more, flat_map_more}

-- before the first element
pub added_none : {X A : Type 0} (f : X → List A) (old : List A) (xs : List X) → old ≡ old ++ flat_map f (take 0 xs)
added_none f old xs = sym (append-nil old)

-- what one more element adds
pub added_more : {X A : Type 0} (f : X → List A) (old now new : List A) (xs : List X) (k : ℕ) (d : X) → k < length xs
    → d ≡ get_or xs k d → now ≡ old ++ flat_map f (take k xs) → new ≡ now ++ f d → new ≡ old ++ flat_map f (take (k + 1) xs)
added_more f old now new xs k d within here was is =
    is ∙ ap (λ z. now ++ f z) here ∙ ap (λ z. z ++ f (get_or xs k d)) was ∙ flat_map_more f old (take k xs) (get_or xs k d) ∙ ap (λ z. old ++ flat_map f z) (sym (take_more xs k d within))

-- what all of them add
pub added_all : {X A : Type 0} (f : X → List A) (old now : List A) (xs : List X) (k : ℕ) → length xs ≤ k
    → now ≡ old ++ flat_map f (take k xs) → now ≡ old ++ flat_map f xs
added_all f old now xs k all was = was ∙ ap (λ z. old ++ flat_map f z) (take_all k xs all)
