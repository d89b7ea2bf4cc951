-- Lists of plain images that are the same, or the same but for their places.
use Rattle.std.proofs.Common.{◌≡◌, ℕ, ◌<◌, List, [], ◌∷◌, length, get_or, map, refl, sym, ap, ◌∙◌}
use Rattle.std.proofs.lemmas.List.{get_or-map}
use Rattle.plain_images.specs.declared.plain.PlainImage.{PlainImage}
use Rattle.player.specs.Changes.{plain_place, unplaced_plain}

-- ---- lists that are alike under a function

pub alike_at : {A B : Type 0} (f : A → B) (xs ys : List A) (i : ℕ) (d : A) → map f xs ≡ map f ys → i < length xs → i < length ys → f (get_or xs i d) ≡ f (get_or ys i d)
alike_at {A} {B} f xs ys i d e in_xs in_ys = sym (get_or-map f xs i d (f d) in_xs) ∙ ap (λ (z : List B). get_or z i (f d)) e ∙ get_or-map f ys i d (f d) in_ys

-- ---- plain images

-- with the places all is the same
one_plain : (a b : PlainImage) → unplaced_plain a ≡ unplaced_plain b → plain_place a ≡ plain_place b → a ≡ b
one_plain a b same place =
    let x = ap (λ p. p.0) place in
    let y = ap (λ p. p.1) place in
    let w = ap (λ (p : PlainImage). p.mask.w) same in
    let h = ap (λ (p : PlainImage). p.mask.h) same in
    let bytes = ap (λ (p : PlainImage). p.mask.bytes) same in
    let colour = ap (λ (p : PlainImage). p.colour) same in
    λ i. record { mask = record { x = x i; y = y i; w = w i; h = h i; bytes = bytes i }; colour = colour i }

abbrev first_of_list : {A : Type 0} → A → List A → A
first_of_list d [] = d
first_of_list d (x ∷ xs) = x

abbrev rest_of_list : {A : Type 0} → List A → List A
rest_of_list [] = []
rest_of_list (x ∷ xs) = xs

pub one_list : (xs ys : List PlainImage) → map unplaced_plain xs ≡ map unplaced_plain ys → map plain_place xs ≡ map plain_place ys → xs ≡ ys
one_list [] [] same places = refl
one_list [] (b ∷ ys) same places = let none : [] ≡ unplaced_plain b ∷ map unplaced_plain ys = same in absurd cc
one_list (a ∷ xs) [] same places = let none : unplaced_plain a ∷ map unplaced_plain xs ≡ [] = same in absurd cc
one_list (a ∷ xs) (b ∷ ys) same places =
    let first = one_plain a b (ap (first_of_list (unplaced_plain a)) same) (ap (first_of_list (plain_place a)) places) in
    let rest = one_list xs ys (ap rest_of_list same) (ap rest_of_list places) in
    λ i. first i ∷ rest i
