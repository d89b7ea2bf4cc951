use Rattle.std.proofs.Common.{◌<◌, pos, length, slice_index_or, FitsSigned, to_z-of_z, rules, arith, w64}
use Rattle.std.proofs.lemmas.Grind.{common_steps}
use Rattle.cff_font.proofs.StrokeLong.{aside-first}
use Rattle.cff_font.proofs.strokes.add_even_curves_of.Goals as goal

pub returns-then-operands-eq0 : goal.returns-then-operands-eq0
returns-then-operands-eq0 c =
    let f0 : FitsSigned w64 (slice_index_or c.args.operands.now 0 (pos 0)) = search rules in
    let some : 0 < length c.args.operands.now = grind (arith, common_steps) in
    let h = simp to_z-of_z at c.add_even_curves.ensures in
    let w = aside-first c.args.is_level c.args.operands.now some c.if-operands-eq0.true in
    simp w h
