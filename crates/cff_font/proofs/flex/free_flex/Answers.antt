use Rattle.std.proofs.Common.{pos, slice_index_or, FitsSigned, to_z-of_z, arith, rules, w64}
use Rattle.cff_font.proofs.StrokeLong.{free_flex-drawn, free_flex-far}
use Rattle.cff_font.proofs.flex.free_flex.Goals as goal

pub returns-in-Some : goal.returns-in-Some
returns-in-Some c =
    let f0 : FitsSigned w64 (slice_index_or c.args.operands.now 0 (pos 0)) = search rules in
    let f1 : FitsSigned w64 (slice_index_or c.args.operands.now 1 (pos 0)) = search rules in
    let f2 : FitsSigned w64 (slice_index_or c.args.operands.now 2 (pos 0)) = search rules in
    let f3 : FitsSigned w64 (slice_index_or c.args.operands.now 3 (pos 0)) = search rules in
    let f4 : FitsSigned w64 (slice_index_or c.args.operands.now 4 (pos 0)) = search rules in
    let f5 : FitsSigned w64 (slice_index_or c.args.operands.now 5 (pos 0)) = search rules in
    let f6 : FitsSigned w64 (slice_index_or c.args.operands.now 6 (pos 0)) = search rules in
    let f7 : FitsSigned w64 (slice_index_or c.args.operands.now 7 (pos 0)) = search rules in
    let f8 : FitsSigned w64 (slice_index_or c.args.operands.now 8 (pos 0)) = search rules in
    let f9 : FitsSigned w64 (slice_index_or c.args.operands.now 9 (pos 0)) = search rules in
    let f10 : FitsSigned w64 (slice_index_or c.args.operands.now 10 (pos 0)) = search rules in
    let first = simp to_z-of_z at c.curve_by.ensures in
    let last = simp to_z-of_z at c.last_step.ensures in
    simp to_z-of_z (free_flex-drawn c.args.operands.now c.in-Some.far c.curve_by.result c.last_step.result (omega arith) c.in-Some.ensures.value first last)

pub returns-in-None : goal.returns-in-None
returns-in-None c = free_flex-far c.args.operands.now (omega arith) c.in-None.ensures.value
