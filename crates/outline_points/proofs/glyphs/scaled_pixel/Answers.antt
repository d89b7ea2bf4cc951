use Rattle.std.proofs.Common.{◌+ℤ◌, FitsSigned, to_z-of_z, refl, rules, arith, w64}
use Rattle.std.proofs.lemmas.Int.{ints}
use Rattle.outline_points.proofs.glyphs.scaled_pixel.Goals as goal

pub returns-clause-value : goal.returns-clause-value
returns-clause-value c =
    let fx : FitsSigned w64 c.scaled_length-x.result = search rules in
    let fy : FitsSigned w64 c.scaled_length-y.result = search rules in
    let fs : FitsSigned w64 c.slant.result = search rules in
    let sum : FitsSigned w64 (c.scaled_length-x.result +ℤ c.slant.result) = omega (arith, ints, c.scaled_length-x.ensures.within, c.slant.ensures.within) in
    let fa : FitsSigned w64 c.args.a = c.ranges.a in
    let fb : FitsSigned w64 c.args.b = c.ranges.b in
    let fux : FitsSigned w64 c.args.m.now.ux = omega (arith, ints, c.requires.matrix.ux) in
    let fuy : FitsSigned w64 c.args.m.now.uy = omega (arith, ints, c.requires.matrix.uy) in
    let x = simp to_z-of_z at c.scaled_length-x.ensures.value in
    let y = simp to_z-of_z at c.scaled_length-y.ensures.value in
    let s = simp to_z-of_z at c.slant.ensures.value in
    rw (to_z-of_z fx, to_z-of_z fs, to_z-of_z sum, to_z-of_z fy, s, x, y) refl
