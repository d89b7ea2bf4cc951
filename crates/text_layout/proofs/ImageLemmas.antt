-- Images of lists, one element at a time.
use Rattle.std.proofs.Common.{◌≡◌, ℕ, ◌+◌, ◌<◌, List, [], ◌∷◌, ◌++◌, map, length, take, drop, get_or, sym, ap, ap₂, ◌∙◌, append_assoc}
use Rattle.std.proofs.lemmas.List.{drop_more, map-append, take_more}
use Rattle.std.specs.List.{zip}

-- one more element of a list of images
pub mapped_more : {A B : Type 0} (f : A → B) (xs : List A) (k : ℕ) (d : A) (before after : List B) (r : B) → k < length xs
    → before ≡ map f (take k xs) → after ≡ before ++ r ∷ [] → r ≡ f (get_or xs k d) → after ≡ map f (take (k + 1) xs)
mapped_more f xs k d before after r l h push is =
    push ∙ ap₂ (λ a b. a ++ b ∷ []) h is ∙ sym (ap (map f) (take_more xs k d l) ∙ map-append f (take k xs) (get_or xs k d ∷ []))

-- two lists from one place on
zip-more : {A B : Type 0} (xs : List A) (ys : List B) (k : ℕ) (a : A) (b : B) → k < length xs → k < length ys
    → zip (drop k xs) (drop k ys) ≡ (get_or xs k a, get_or ys k b) ∷ zip (drop (k + 1) xs) (drop (k + 1) ys)
zip-more xs ys k a b l m = ap₂ zip (drop_more xs k a l) (drop_more ys k b m)

-- one more image of a pair
pub zipped_more : {A B C : Type 0} (f : A × B → C) (xs : List A) (ys : List B) (k : ℕ) (a : A) (b : B) (before after all : List C) (r : C) → k < length xs → k < length ys
    → before ++ map f (zip (drop k xs) (drop k ys)) ≡ all → after ≡ before ++ r ∷ [] → r ≡ f (get_or xs k a, get_or ys k b)
    → after ++ map f (zip (drop (k + 1) xs) (drop (k + 1) ys)) ≡ all
zipped_more f xs ys k a b before after all r l m h push is =
    let rest = map f (zip (drop (k + 1) xs) (drop (k + 1) ys)) in
    ap (λ z. z ++ rest) push
    ∙ append_assoc before (r ∷ []) rest
    ∙ ap (λ z. before ++ z ∷ rest) is
    ∙ ap (λ z. before ++ map f z) (sym (zip-more xs ys k a b l m))
    ∙ h
