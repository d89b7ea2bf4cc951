-- The pieces between the commas of a text in UTF-8.
use Rattle.std.proofs.Common.{◌≡◌, ℕ, ◌+◌, ◌<◌, true, false, cond, List, [], ◌∷◌, ◌++◌, length, get_or, refl, sym, subst, arith, length-append}
use Rattle.std.specs.Str.{IsUtf8}
use Rattle.std.specs.List.{All, join_with_byte, slice_split, onto_first}
use Rattle.std.proofs.lemmas.Str.{IsUtf8-take, IsUtf8-drop, IsUtf8-append, IsUtf8-from_ascii, IsCharBoundary-before_ascii, IsCharBoundary-after_ascii}
use Rattle.std.proofs.lemmas.Str.Ascii.{IsAscii-cons, IsAscii-nil}
use Rattle.std.proofs.lemmas.List.{get_or_at}
use Rattle.std.proofs.lemmas.List.Elements.{All-nil, All-cons}
use Rattle.std.proofs.lemmas.List.Splits.{join_with_byte-slice_split}
use Rattle.std.proofs.Math.Seq.{take-append_seam, drop-append-add}
use Rattle.ass_script.specs.Words.{is_comma}
use Rattle.ass_events.specs.Cuts.{pieces_of}

abbrev pub EachUtf8 : List (List ℕ) → Type 0
EachUtf8 [] = Unit {0}
EachUtf8 (piece ∷ pieces) = IsUtf8 piece × EachUtf8 pieces

abbrev pub EachPlain : List (List ℕ) → Type 0
EachPlain [] = Unit {0}
EachPlain (piece ∷ pieces) = All (λ c. is_comma c ≡ false) piece × EachPlain pieces

-- ---- no piece has a comma

first_plain : (x : ℕ) (pieces : List (List ℕ)) → is_comma x ≡ false → EachPlain pieces → EachPlain (onto_first x pieces)
first_plain x [] differs each = (All-cons (λ c. is_comma c ≡ false) x [] differs (All-nil (λ c. is_comma c ≡ false)), tt)
first_plain x (p ∷ ps) differs each = (All-cons (λ c. is_comma c ≡ false) x p differs each.0, each.1)

pub pieces_plain : (text : List ℕ) → EachPlain (slice_split is_comma text)
pieces_plain [] = (All-nil (λ c. is_comma c ≡ false), tt)
pieces_plain (x ∷ xs) =
    elim (is_comma x) as (λ b. is_comma x ≡ b → EachPlain (cond b ([] ∷ slice_split is_comma xs) (onto_first x (slice_split is_comma xs)))) [
      | true ↦ λ same. (All-nil (λ c. is_comma c ≡ false), pieces_plain xs)
      | false ↦ λ differs. first_plain x (slice_split is_comma xs) differs (pieces_plain xs)
    ] refl

-- ---- each piece is UTF-8

comma_utf8 : IsUtf8 (44 ∷ [])
comma_utf8 = IsUtf8-from_ascii (44 ∷ []) (IsAscii-cons 44 [] (omega arith) IsAscii-nil)

-- a text is UTF-8 on both sides of a comma
sides_utf8 : (a b : List ℕ) → IsUtf8 (a ++ (44 ∷ b)) → IsUtf8 a × IsUtf8 b
sides_utf8 a b utf8 =
    let text = a ++ (44 ∷ b) in
    let inside : length a < length text = omega (arith, length-append a (44 ∷ b)) in
    let at : get_or text (length a) 0 ≡ 44 = get_or_at a 44 b 0 (length a) refl in
    let low : get_or text (length a) 0 < 128 = omega (arith, at) in (
      subst IsUtf8 (take-append_seam a (44 ∷ b)) (IsUtf8-take text (length a) utf8 (IsCharBoundary-before_ascii text (length a) inside low)),
      subst IsUtf8 (drop-append-add a (44 ∷ b) 1) (IsUtf8-drop text (length a + 1) utf8 (IsCharBoundary-after_ascii text (length a) utf8 inside low)),
    )

split_utf8 : (pieces : List (List ℕ)) → IsUtf8 (join_with_byte 44 pieces) → EachUtf8 pieces
split_utf8 [] utf8 = tt
split_utf8 (p ∷ []) utf8 = (utf8, tt)
split_utf8 (p ∷ (q ∷ qs)) utf8 = let sides = sides_utf8 p (join_with_byte 44 (q ∷ qs)) utf8 in (sides.0, split_utf8 (q ∷ qs) sides.1)

pub pieces_utf8 : (text : List ℕ) → IsUtf8 text → EachUtf8 (pieces_of text)
pieces_utf8 text utf8 = split_utf8 (pieces_of text) (subst IsUtf8 (sym (join_with_byte-slice_split 44 text)) utf8)

pub comma_before : (text : List ℕ) → IsUtf8 text → IsUtf8 (44 ∷ text)
comma_before text utf8 = IsUtf8-append (44 ∷ []) text comma_utf8 utf8

pub joined_utf8 : (p : List ℕ) (pieces : List (List ℕ)) → EachUtf8 (p ∷ pieces) → IsUtf8 (join_with_byte 44 (p ∷ pieces))
joined_utf8 p [] each = each.0
joined_utf8 p (q ∷ qs) each = IsUtf8-append p (44 ∷ join_with_byte 44 (q ∷ qs)) each.0 (comma_before (join_with_byte 44 (q ∷ qs)) (joined_utf8 q qs each.1))
