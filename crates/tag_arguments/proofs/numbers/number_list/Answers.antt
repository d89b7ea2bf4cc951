use Rattle.std.proofs.Common.{refl, rules, w64, List, ◌∷◌, ◌++◌, [], ap, ◌∙◌, sym, append_assoc, arith, subst, ℤ}
use Rattle.std.specs.Prelude.{FitsSigned}
use Rattle.std.proofs.lemmas.Int.{to_z-of_z}
use Rattle.std.specs.Option.{option_copied}
use Rattle.tag_arguments.specs.Numbers.{left_pieces, AreNumbers}
use Rattle.tag_arguments.proofs.NumberLemmas.{not_numbers, too_many, numbers_push}
use Rattle.tag_arguments.proofs.numbers.number_list.Goals as goal

pub returns-in_default-read_front : goal.returns-in_default-read_front
returns-in_default-read_front c = λ values few.
    let done = c.loop-rest.invariant.0 in
    let b = c.args.drops_blank in
    let joined = c.loop-rest.invariant.1 ∙ ap (λ z. done ++ left_pieces b (option_copied z)) c.in-Some.is ∙ ap (λ z. done ++ z) c.in-Some-next_piece.ensures.pieces in
    not_numbers _ done c.in-Some-next_piece.piece.now _ values joined (rw c.trimmed.ensures at c.in_default-read_front.ensures) few.1

pub returns-in-Err : goal.returns-in-Err
returns-in-Err c = λ values few.
    let done = c.loop-rest.invariant.0 in
    let b = c.args.drops_blank in
    let joined = c.loop-rest.invariant.1 ∙ ap (λ z. done ++ left_pieces b (option_copied z)) c.in-Some.is ∙ ap (λ z. done ++ z) c.in-Some-next_piece.ensures.pieces in
    too_many _ done c.in-Some-next_piece.piece.now _ c.loop-rest.numbers.items values joined c.loop-rest.invariant.2 c.in-Err.ensures.full few

pub loop-rest-preserved : goal.loop-rest-preserved
loop-rest-preserved c =
    let done = c.loop-rest.invariant.0 in
    let b = c.args.drops_blank in
    let piece = c.in-Some-next_piece.piece.now in
    let joined = c.loop-rest.invariant.1 ∙ ap (λ z. done ++ left_pieces b (option_copied z)) c.in-Some.is ∙ ap (λ z. done ++ z) c.in-Some-next_piece.ensures.pieces in
    let front = rw c.trimmed.ensures at c.in-Some-read_front.ensures in
    let pushed = numbers_push done c.loop-rest.numbers.items piece c.in-Some-read_front.value c.loop-rest.invariant.2 front in
    let P : List ℤ → Type 0 = λ z. AreNumbers (done ++ (piece ∷ [])) z in
    let fits : FitsSigned w64 c.in-Some-read_front.value = search rules in
    let ok = rw (to_z-of_z w64 c.in-Some-read_front.value fits) at c.in-Ok.ensures.ok in
    let room = c.in-Ok.ensures.variant.0 refl in
    let longer = c.in-Ok.ensures.len in
    (done ++ (piece ∷ []), rw append_assoc joined, subst P (sym ok) pushed, omega arith)
