use Rattle.std.proofs.Common.{◌≡◌, ◌*◌, ◌≤◌, refl, FitsSigned, to_z-of_z, rules, arith, w64}
use Rattle.std.proofs.lemmas.Nat.{mul-le}
use Rattle.ass_num.specs.Floor.{floor_div}
use Rattle.ass_num.proofs.LimitLemmas.{IsWithin-wider}
use Rattle.outline_points.specs.CubicContours.{max_cubic_weight}
use Rattle.outline_points.specs.Limits.{max_contour, max_unturned}
use Rattle.outline_points.proofs.Bounds.{within_quotient}
use Rattle.outline_points.proofs.cubic_contours.cubic_mean.Goals as goal

is : (c : goal.After-div_euclid) → c.div_euclid.result ≡ floor_div c.cubic_sum.result c.steps_unit.result
is c =
    let fs : FitsSigned w64 c.cubic_sum.result = search rules in
    let fu : FitsSigned w64 c.steps_unit.result = search rules in
    rw (to_z-of_z fs, to_z-of_z fu) at c.div_euclid.ensures

pub returns-clause-value : goal.returns-clause-value
returns-clause-value c =
    let fd : FitsSigned w64 c.div_euclid.result = search rules in
    let fa : FitsSigned w64 c.cubic_part-a.result = search rules in
    let fb : FitsSigned w64 c.cubic_part-b.result = search rules in
    let fc : FitsSigned w64 c.cubic_part-c.result = search rules in
    let fe : FitsSigned w64 c.cubic_part-d.result = search rules in
    let sum = rw (to_z-of_z fa, to_z-of_z fb, to_z-of_z fc, to_z-of_z fe) at c.cubic_sum.ensures.value in
    let a = rw (to_z-of_z c.ranges.a, c.steps_cube.ensures.value) at c.cubic_part-a.ensures.value in
    let b = rw (to_z-of_z c.ranges.b, c.mixed_cube.ensures.value) at c.cubic_part-b.ensures.value in
    let d = rw (to_z-of_z c.ranges.c, c.mixed_cube-2.ensures.value) at c.cubic_part-c.ensures.value in
    let e = rw (to_z-of_z c.ranges.d, c.steps_cube-2.ensures.value) at c.cubic_part-d.ensures.value in
    rw (to_z-of_z fd, is c, sum, a, b, d, e, c.steps_unit.ensures.value) refl

pub returns-clause-within : goal.returns-clause-within
returns-clause-within c =
    let fd : FitsSigned w64 c.div_euclid.result = search rules in
    let n = c.args.n in
    let some : 1 ≤ n * n * n = mul-le 1 1 (n * n) n (mul-le 1 1 n n c.requires.some c.requires.some) c.requires.some in
    rw (to_z-of_z fd, is c, c.steps_unit.ensures.value)
    (within_quotient max_unturned (n * n * n) c.cubic_sum.result some
    (IsWithin-wider (4 * (max_contour * max_cubic_weight)) (max_unturned * (n * n * n)) c.cubic_sum.result (omega (arith, some)) c.cubic_sum.ensures.within))
