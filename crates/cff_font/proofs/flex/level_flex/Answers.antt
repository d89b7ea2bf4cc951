use Rattle.std.proofs.Common.{pos, ◌-ℤ◌, slice_index_or, FitsSigned, to_z-of_z, arith, rules, w64}
use Rattle.std.proofs.lemmas.Int.{ints}
use Rattle.cff_font.proofs.StrokeLong.{level_flex-drawn}
use Rattle.cff_font.proofs.flex.level_flex.Goals as goal

pub returns-in-Some : goal.returns-in-Some
returns-in-Some c =
    let f0 : FitsSigned w64 (slice_index_or c.args.operands.now 0 (pos 0)) = search rules in
    let f1 : FitsSigned w64 (slice_index_or c.args.operands.now 1 (pos 0)) = search rules in
    let f2 : FitsSigned w64 (slice_index_or c.args.operands.now 2 (pos 0)) = search rules in
    let f3 : FitsSigned w64 (slice_index_or c.args.operands.now 3 (pos 0)) = search rules in
    let f4 : FitsSigned w64 (slice_index_or c.args.operands.now 4 (pos 0)) = search rules in
    let f5 : FitsSigned w64 (slice_index_or c.args.operands.now 5 (pos 0)) = search rules in
    let f6 : FitsSigned w64 (slice_index_or c.args.operands.now 6 (pos 0)) = search rules in
    let far : FitsSigned w64 c.in-Some.far.y = omega (arith, ints, c.in-Some.ensures.within.y) in
    let back : FitsSigned w64 (pos 0 -ℤ c.in-Some.far.y) = omega (arith, ints, c.in-Some.ensures.within.y) in
    let here = simp to_z-of_z at c.in-Some.ensures.value in
    let first = simp to_z-of_z at c.curve_by.ensures in
    let second = simp to_z-of_z at c.curve_by-in-Some.ensures in
    level_flex-drawn c.args.operands.now c.in-Some.far _ _ (omega arith) here first second
