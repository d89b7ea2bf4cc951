use Rattle.std.proofs.Common.{◌+ℤ◌, FitsSigned, to_z-of_z, arith, w64}
use Rattle.std.proofs.lemmas.Int.{ints}
use Rattle.fixed_outline.proofs.drawings.placed.Goals as goal

pub returns-clause-value : goal.returns-clause-value
returns-clause-value c =
    let fx : FitsSigned w64 c.args.p.x = omega (arith, ints, c.requires.point.x) in
    let fy : FitsSigned w64 c.args.p.y = omega (arith, ints, c.requires.point.y) in
    let fs : FitsSigned w64 c.args.shift = c.ranges.shift in
    let sum : FitsSigned w64 (c.args.p.y +ℤ c.args.shift) = omega (arith, ints, c.requires.point.y, c.requires.shift) in
    simp to_z-of_z at c.outline_point.ensures.value
