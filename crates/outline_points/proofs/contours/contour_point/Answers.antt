use Rattle.std.proofs.Common.{◌≡◌, ◌∙◌, pos, ◌+ℤ◌, ◌-ℤ◌, neg_ℤ, FitsSigned, to_z-of_z, refl, arith, w32, w64}
use Rattle.std.proofs.lemmas.Int.{ints}
use Rattle.outline_points.proofs.contours.contour_point.Goals as goal

pub returns-clause-value : goal.returns-clause-value
returns-clause-value c =
    let px : FitsSigned w32 c.args.p.x = omega (arith, ints, c.requires.point.x) in
    let py : FitsSigned w32 c.args.p.y = omega (arith, ints, c.requires.point.y) in
    let x : c.from.result ≡ c.args.p.x = c.from.ensures ∙ to_z-of_z px in
    let y : c.from-2.result ≡ c.args.p.y = c.from-2.ensures ∙ to_z-of_z py in
    let fx : FitsSigned w64 c.args.p.x = omega (arith, ints, c.requires.point.x) in
    let fy : FitsSigned w64 c.args.p.y = omega (arith, ints, c.requires.point.y) in
    let fn : FitsSigned w64 (pos 0 -ℤ c.args.p.y) = omega (arith, ints, c.requires.point.y) in
    let up : pos 0 -ℤ c.args.p.y ≡ neg_ℤ c.args.p.y = omega (arith, ints) in
    let scaled = rw (x, y, to_z-of_z fx, to_z-of_z fy, to_z-of_z fn, up) at c.scaled_pixel-scaled.ensures.value in
    let fa : FitsSigned w64 c.scaled_pixel-scaled.result.x = omega (arith, ints, c.scaled_pixel-scaled.ensures.within.x) in
    let fb : FitsSigned w64 c.scaled_pixel-scaled.result.y = omega (arith, ints, c.scaled_pixel-scaled.ensures.within.y) in
    let fs : FitsSigned w64 (c.scaled_pixel-scaled.result.x +ℤ c.args.shift) = omega (arith, ints, c.scaled_pixel-scaled.ensures.within.x, c.requires.shift) in
    rw (to_z-of_z fa, to_z-of_z fb, to_z-of_z c.ranges.shift, to_z-of_z fs, scaled) refl
