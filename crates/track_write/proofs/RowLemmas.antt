-- Texts and lists that grow part by part.
use Rattle.std.proofs.Common.{◌≡◌, ℕ, ◌+◌, ◌<◌, ◌≤◌, List, [], ◌∷◌, ◌++◌, length, get_or, drop, map, flat_map, sym, ap, ◌∙◌, append_assoc}
use Rattle.std.proofs.lemmas.Grind.{flat_map-append}
use Rattle.std.proofs.lemmas.List.{append-nil, drop_more, drop_all}
use Rattle.track_write.specs.Pieces.{piece_text, next_field}
use Rattle.track_write.specs.Rows.{row, ended}
use Rattle.track_write.specs.declared.pieces.Piece.{Piece}

-- F says what comes of each element, one after another
module _ {X Y : Type 0} (F : List X → List Y) (h : X → List Y) (each : (x : X) (xs : List X) → F (x ∷ xs) ≡ h x ++ F xs) where
  pub text_more : (text next : List Y) (xs : List X) (i : ℕ) (d : X) → i < length xs → next ≡ text ++ h (get_or xs i d) → next ++ F (drop (i + 1) xs) ≡ text ++ F (drop i xs)
  text_more text next xs i d inside e =
      ap (λ z. z ++ F (drop (i + 1) xs)) e ∙ append_assoc text (h (get_or xs i d)) (F (drop (i + 1) xs))
      ∙ ap (λ z. text ++ z) (sym (each (get_or xs i d) (drop (i + 1) xs)) ∙ ap F (sym (drop_more xs i d inside)))

  pub text_whole : (text start : List Y) (xs : List X) (i : ℕ) → F [] ≡ [] → length xs ≤ i → text ++ F (drop i xs) ≡ start ++ F xs → text ≡ start ++ F xs
  text_whole text start xs i none past e = sym (append-nil text) ∙ ap (λ z. text ++ z) (sym none ∙ ap F (sym (drop_all i xs past))) ∙ e

-- a row by its first field
pub row_is : (first : List ℕ) (rest : List Piece) → row (first ∷ map piece_text rest) ≡ first ++ flat_map next_field rest
row_is first [] = sym (append-nil first)
row_is first (piece ∷ pieces) = ap (λ z. first ++ (44 ∷ z)) (row_is (piece_text piece) pieces)

-- two parts behind a text
pub two_parts : (t a b one two : List ℕ) → one ≡ t ++ a → two ≡ one ++ b → two ≡ t ++ (a ++ (b ++ []))
two_parts t a b one two one_is two_is =
    let whole : two ≡ (t ++ a) ++ b = cc in
    whole ∙ append_assoc t a b ∙ ap (λ z. t ++ (a ++ z)) (sym (append-nil b))

-- seven parts behind a text
pub seven_parts : (t a b c d e f g one two three four five six seven : List ℕ) → one ≡ t ++ a → two ≡ one ++ b → three ≡ two ++ c → four ≡ three ++ d → five ≡ four ++ e → six ≡ five ++ f → seven ≡ six ++ g →
    seven ≡ t ++ (a ++ (b ++ (c ++ (d ++ (e ++ (f ++ g))))))
seven_parts t a b c d e f g one two three four five six seven one_is two_is three_is four_is five_is six_is seven_is =
    let whole : seven ≡ ((((((t ++ a) ++ b) ++ c) ++ d) ++ e) ++ f) ++ g = cc in
    let flat : ((((((t ++ a) ++ b) ++ c) ++ d) ++ e) ++ f) ++ g ≡ t ++ (a ++ (b ++ (c ++ (d ++ (e ++ (f ++ g)))))) = simp append_assoc in
    whole ∙ flat

-- the lines of a script in five parts
pub five_parts : (h a b c d : List (List ℕ)) (none one two three four five : List ℕ) → none ≡ [] → one ≡ none ++ flat_map ended h → two ≡ one ++ flat_map ended a → three ≡ two ++ flat_map ended b →
    four ≡ three ++ flat_map ended c → five ≡ four ++ flat_map ended d → five ≡ flat_map ended (h ++ (a ++ b) ++ (c ++ d))
five_parts h a b c d none one two three four five none_is one_is two_is three_is four_is five_is =
    let text : List (List ℕ) → List ℕ = flat_map ended in
    let whole : five ≡ (((([] ++ text h) ++ text a) ++ text b) ++ text c) ++ text d = cc in
    let flat : (((([] ++ text h) ++ text a) ++ text b) ++ text c) ++ text d ≡ text h ++ (text a ++ (text b ++ (text c ++ text d))) = simp append_assoc in
    let styles : text (h ++ (a ++ b)) ≡ text h ++ (text a ++ text b) = flat_map-append ended h (a ++ b) ∙ ap (λ z. text h ++ z) (flat_map-append ended a b) in
    let joined : text (h ++ (a ++ b) ++ (c ++ d)) ≡ (text h ++ (text a ++ text b)) ++ (text c ++ text d) =
    flat_map-append ended (h ++ (a ++ b)) (c ++ d) ∙ (λ i. styles i ++ flat_map-append ended c d i) in
    let level : (text h ++ (text a ++ text b)) ++ (text c ++ text d) ≡ text h ++ (text a ++ (text b ++ (text c ++ text d))) = simp append_assoc in
    whole ∙ flat ∙ sym level ∙ sym joined
