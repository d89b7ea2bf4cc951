use Rattle.std.proofs.Common.{◌≡◌, pos, ◌+ℤ◌, ◌-ℤ◌, neg_ℤ, FitsSigned, to_z-of_z, refl, rules, arith, w64}
use Rattle.std.proofs.lemmas.Int.{ints}
use Rattle.outline_points.proofs.cubic_contours.stroke_point.Goals as goal

pub returns-clause-value : goal.returns-clause-value
returns-clause-value c =
    let fpx : FitsSigned w64 c.args.p.x = omega (arith, ints, c.requires.point.x) in
    let fpy : FitsSigned w64 c.args.p.y = omega (arith, ints, c.requires.point.y) in
    let fn : FitsSigned w64 (pos 0 -ℤ c.args.p.y) = omega (arith, ints, c.requires.point.y) in
    let fux : FitsSigned w64 c.args.m.now.ux = omega (arith, ints, c.requires.matrix.ux) in
    let fuy : FitsSigned w64 c.args.m.now.uy = omega (arith, ints, c.requires.matrix.uy) in
    let up : pos 0 -ℤ c.args.p.y ≡ neg_ℤ c.args.p.y = omega (arith, ints) in
    let fy : FitsSigned w64 c.scaled_fraction-y.result = search rules in
    let fx : FitsSigned w64 c.scaled_fraction.result = search rules in
    let fs : FitsSigned w64 c.slant.result = search rules in
    let sum : FitsSigned w64 (c.scaled_fraction.result +ℤ c.slant.result) = omega (arith, ints, c.scaled_fraction.ensures.within, c.slant.ensures.within) in
    let all : FitsSigned w64 ((c.scaled_fraction.result +ℤ c.slant.result) +ℤ c.args.shift) = omega (arith, ints, c.scaled_fraction.ensures.within, c.slant.ensures.within, c.requires.shift) in
    let y = rw (to_z-of_z fpy, to_z-of_z fn, up, to_z-of_z fuy) at c.scaled_fraction-y.ensures.value in
    let x = rw (to_z-of_z fpx, to_z-of_z fux) at c.scaled_fraction.ensures.value in
    let s = rw (to_z-of_z fy) at c.slant.ensures.value in
    rw (to_z-of_z fx, to_z-of_z fs, to_z-of_z sum, to_z-of_z c.ranges.shift, to_z-of_z all, to_z-of_z fy, s, x, y) refl
