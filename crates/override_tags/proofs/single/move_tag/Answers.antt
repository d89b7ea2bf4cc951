use Rattle.std.proofs.Common.{rules, arith, w64, pos, slice_index_or, ap, sym, ◌∙◌, Some}
use Rattle.std.specs.Prelude.{FitsSigned}
use Rattle.std.proofs.lemmas.Int.{to_z-of_z}
use Rattle.override_tags.specs.Singles.{move_of}
use Rattle.override_tags.proofs.NumberShapes.{six_are}
use Rattle.override_tags.proofs.single.move_tag.Goals as goal

pub returns-in-len6 : goal.returns-in-len6
returns-in-len6 c =
    let xs = c.args.numbers.now in
    let f0 : FitsSigned w64 (slice_index_or xs 0 (pos 0)) = search rules in
    let f1 : FitsSigned w64 (slice_index_or xs 1 (pos 0)) = search rules in
    let f2 : FitsSigned w64 (slice_index_or xs 2 (pos 0)) = search rules in
    let f3 : FitsSigned w64 (slice_index_or xs 3 (pos 0)) = search rules in
    let f4 : FitsSigned w64 (slice_index_or xs 4 (pos 0)) = search rules in
    let f5 : FitsSigned w64 (slice_index_or xs 5 (pos 0)) = search rules in
    let whole_list = six_are xs (omega arith) (to_z-of_z w64 _ f0) (to_z-of_z w64 _ f1) (to_z-of_z w64 _ f2) (to_z-of_z w64 _ f3) (to_z-of_z w64 _ f4) (to_z-of_z w64 _ f5) in
    ap Some c.timed_move.ensures ∙ sym (ap (λ z. move_of (Some z)) whole_list)
