-- A Style line, one piece on.
use Rattle.std.proofs.Common.{◌≡◌, ℕ, suc, ◌+◌, ◌<◌, List, [], ◌∷◌, length, get_or, drop, refl, ap, ◌∙◌, arith}
use Rattle.std.proofs.Math.Seq.{drop-cons}
use Rattle.ass_num.specs.Blanks.{trimmed}
use Rattle.ass_script.specs.Styles.{with_fields, with_field}
use Rattle.ass_script.specs.declared.style.Style.{Style}
use Rattle.ass_script.specs.declared.style_field.StyleField.{StyleField}

pub fields_on : (fields : List StyleField) (place : ℕ) (d : StyleField) (piece : List ℕ) (rest : List (List ℕ)) (s : Style) → place < length fields →
    with_fields (drop place fields) (piece ∷ rest) s ≡ with_fields (drop (place + 1) fields) rest (with_field (get_or fields place d) (trimmed piece) s)
fields_on fields place d piece rest s inside =
    let next : suc place ≡ place + 1 = omega arith in
    let here : drop place fields ≡ get_or fields place d ∷ drop (place + 1) fields = drop-cons fields place d inside ∙ ap (λ (n : ℕ). get_or fields place d ∷ drop n fields) next in
    ap (λ fs. with_fields fs (piece ∷ rest) s) here

pub fields_end : (fields : List StyleField) (s : Style) → with_fields fields [] s ≡ s
fields_end [] s = refl
fields_end (f ∷ fields) s = refl
