use Rattle.std.proofs.Common.{◌∙◌, pos, ◌-ℤ◌, slice_index_or, FitsSigned, to_z-of_z, ap, arith, rules, w64}
use Rattle.std.proofs.lemmas.Int.{ints}
use Rattle.cff_font.specs.Strokes.{end_of_steps, origin}
use Rattle.cff_font.proofs.StrokeLong.{closed_flex-drawn, closed_flex-far}
use Rattle.cff_font.proofs.flex.closed_flex.Goals as goal

pub returns-in-Some : goal.returns-in-Some
returns-in-Some c =
    let f0 : FitsSigned w64 (slice_index_or c.args.operands.now 0 (pos 0)) = search rules in
    let f1 : FitsSigned w64 (slice_index_or c.args.operands.now 1 (pos 0)) = search rules in
    let f2 : FitsSigned w64 (slice_index_or c.args.operands.now 2 (pos 0)) = search rules in
    let f3 : FitsSigned w64 (slice_index_or c.args.operands.now 3 (pos 0)) = search rules in
    let f4 : FitsSigned w64 (slice_index_or c.args.operands.now 4 (pos 0)) = search rules in
    let f5 : FitsSigned w64 (slice_index_or c.args.operands.now 5 (pos 0)) = search rules in
    let f6 : FitsSigned w64 (slice_index_or c.args.operands.now 6 (pos 0)) = search rules in
    let f7 : FitsSigned w64 (slice_index_or c.args.operands.now 7 (pos 0)) = search rules in
    let f8 : FitsSigned w64 (slice_index_or c.args.operands.now 8 (pos 0)) = search rules in
    let within = c.in-Some.ensures.within (record { x = search rules; y = search rules }) in
    let far : FitsSigned w64 c.in-Some.far.y = omega (arith, ints, within.y) in
    let back : FitsSigned w64 (pos 0 -ℤ c.in-Some.far.y) = omega (arith, ints, within.y) in
    let steps = simp to_z-of_z at c.as_slice.ensures in
    let first = simp to_z-of_z at c.curve_by.ensures in
    let second = simp to_z-of_z at c.curve_by-in-Some.ensures in
    closed_flex-drawn c.args.operands.now c.in-Some.far _ _ (omega arith) (c.in-Some.ensures.value ∙ ap (end_of_steps origin) steps) first second

pub returns-in-None : goal.returns-in-None
returns-in-None c =
    let f0 : FitsSigned w64 (slice_index_or c.args.operands.now 0 (pos 0)) = search rules in
    let f1 : FitsSigned w64 (slice_index_or c.args.operands.now 1 (pos 0)) = search rules in
    let f2 : FitsSigned w64 (slice_index_or c.args.operands.now 2 (pos 0)) = search rules in
    let f3 : FitsSigned w64 (slice_index_or c.args.operands.now 3 (pos 0)) = search rules in
    let f6 : FitsSigned w64 (slice_index_or c.args.operands.now 6 (pos 0)) = search rules in
    let f7 : FitsSigned w64 (slice_index_or c.args.operands.now 7 (pos 0)) = search rules in
    let steps = simp to_z-of_z at c.as_slice.ensures in
    closed_flex-far c.args.operands.now (omega arith) (c.in-None.ensures.value ∙ ap (end_of_steps origin) steps)
