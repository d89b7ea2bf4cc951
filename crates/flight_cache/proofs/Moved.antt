-- What is taken from the end of one list is put at the end of another, which is read backwards.
use Rattle.std.proofs.Common.{◌≡◌, ℕ, ◌+◌, ◌<◌, List, [], ◌∷◌, ◌++◌, length, get_or, take, map, reverse, sym, ap, ◌∙◌, arith}
use Rattle.std.proofs.lemmas.List.{append_assoc, map_push, reverse-append, take_more}

module _ {Y Z : Type 0} (shown : Y → Z) (all left before : List Z) (z : Z) (given after : List Y) (y : Y) (taken : before ≡ left ++ z ∷ []) (put : after ≡ given ++ y ∷ []) (same : shown y ≡ z) where
  pub moved : before ++ map shown (reverse given) ≡ all → left ++ map shown (reverse after) ≡ all
  moved are =
      ap (λ (l : List Y). left ++ map shown l) (ap reverse put ∙ reverse-append given (y ∷ []))
      ∙ (ap (λ (x : Z). left ++ x ∷ map shown (reverse given)) same
      ∙ (sym (append_assoc left (z ∷ []) (map shown (reverse given)))
      ∙ (ap (λ (l : List Z). l ++ map shown (reverse given)) (sym taken) ∙ are)))

pub all-moved : {Y Z : Type 0} (shown : Y → Z) (left all : List Z) (given after : List Y) → length left ≡ 0 → after ≡ reverse given → left ++ map shown (reverse given) ≡ all → map shown after ≡ all
all-moved shown [] all given after none is are = ap (map shown) is ∙ are
all-moved shown (x ∷ left) all given after none is are = absurd (omega (arith, none))

-- the first n + 1 elements, read one by one
pub first-more : {X Z : Type 0} (f : X → Z) (xs : List X) (n m : ℕ) (d : X) → n ≡ m + 1 → m < length xs → map f (take n xs) ≡ map f (take m xs) ++ f (get_or xs m d) ∷ []
first-more f xs n m d is lt = ap (λ (k : ℕ). map f (take k xs)) is ∙ (ap (map f) (take_more xs m d lt) ∙ map_push f (take m xs) (get_or xs m d))
