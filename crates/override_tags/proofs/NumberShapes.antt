-- Lists of six and of seven numbers, number by number.
use Rattle.std.proofs.Common.{◌≡◌, ℕ, suc, Bool, ◌+◌, ◌<◌, ℤ, pos, List, [], ◌∷◌, length, get_or, drop, ap, sym, ◌∙◌, subst, add-one, drop-cons, arith, Option}
use Rattle.std.proofs.lemmas.List.{drop_all}
use Rattle.tag_arguments.specs.Numbers.{ReadsNumbers}
use Rattle.override_tags.specs.declared.tag.Tag.{Tag}
use Rattle.override_tags.specs.Singles.{rectangle_of, ReadsClipPieces}

number_at : {a : ℤ} (xs : List ℤ) (i : ℕ) → i < length xs → a ≡ get_or xs i (pos 0) → drop i xs ≡ a ∷ drop (i + 1) xs
number_at xs i h e = rw (add-one, drop-cons xs i (pos 0)) (ap (λ z. z ∷ drop (suc i) xs) (sym e))

pub six_are : {a b c d e f : ℤ} (xs : List ℤ) → length xs ≡ 6
    → a ≡ get_or xs 0 (pos 0) → b ≡ get_or xs 1 (pos 0) → c ≡ get_or xs 2 (pos 0) → d ≡ get_or xs 3 (pos 0) → e ≡ get_or xs 4 (pos 0) → f ≡ get_or xs 5 (pos 0)
    → xs ≡ a ∷ (b ∷ (c ∷ (d ∷ (e ∷ (f ∷ [])))))
six_are {a} {b} {c} {d} {e} {f} xs len a_is b_is c_is d_is e_is f_is =
    number_at xs 0 (omega arith) a_is ∙ ap (λ z. a ∷ z) (number_at xs 1 (omega arith) b_is ∙ ap (λ z. b ∷ z) (number_at xs 2 (omega arith) c_is
    ∙ ap (λ z. c ∷ z) (number_at xs 3 (omega arith) d_is ∙ ap (λ z. d ∷ z) (number_at xs 4 (omega arith) e_is
    ∙ ap (λ z. e ∷ z) (number_at xs 5 (omega arith) f_is ∙ ap (λ z. f ∷ z) (drop_all 6 xs (omega arith)))))))

pub seven_are : {a b c d e f g : ℤ} (xs : List ℤ) → length xs ≡ 7
    → a ≡ get_or xs 0 (pos 0) → b ≡ get_or xs 1 (pos 0) → c ≡ get_or xs 2 (pos 0) → d ≡ get_or xs 3 (pos 0) → e ≡ get_or xs 4 (pos 0) → f ≡ get_or xs 5 (pos 0) → g ≡ get_or xs 6 (pos 0)
    → xs ≡ a ∷ (b ∷ (c ∷ (d ∷ (e ∷ (f ∷ (g ∷ []))))))
seven_are {a} {b} {c} {d} {e} {f} {g} xs len a_is b_is c_is d_is e_is f_is g_is =
    number_at xs 0 (omega arith) a_is ∙ ap (λ z. a ∷ z) (number_at xs 1 (omega arith) b_is ∙ ap (λ z. b ∷ z) (number_at xs 2 (omega arith) c_is
    ∙ ap (λ z. c ∷ z) (number_at xs 3 (omega arith) d_is ∙ ap (λ z. d ∷ z) (number_at xs 4 (omega arith) e_is
    ∙ ap (λ z. e ∷ z) (number_at xs 5 (omega arith) f_is ∙ ap (λ z. f ∷ z) (number_at xs 6 (omega arith) g_is ∙ ap (λ z. g ∷ z) (drop_all 7 xs (omega arith))))))))

-- three or more pieces
pub many_pieces : (inverse : Bool) (parts : List (List ℕ)) (a b q : List ℕ) (qs : List (List ℕ)) (tag : Option Tag) (values : Option (List ℤ))
    → parts ≡ a ∷ (b ∷ (q ∷ qs)) → ReadsNumbers parts values → tag ≡ rectangle_of inverse values → ReadsClipPieces inverse parts tag
many_pieces inverse parts a b q qs tag values e read is =
    let P : List (List ℕ) → Type 0 = λ z. ReadsClipPieces inverse z tag in
    let R : List (List ℕ) → Type 0 = λ z. ReadsNumbers z values in
    subst P (sym e) (values, subst R e read, is)
