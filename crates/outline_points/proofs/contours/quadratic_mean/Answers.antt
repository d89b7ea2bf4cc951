use Rattle.std.proofs.Common.{◌≡◌, ◌*◌, ◌≤◌, pos, refl, FitsSigned, to_z-of_z, rules, arith, w64}
use Rattle.std.proofs.lemmas.Nat.{mul-le}
use Rattle.ass_num.specs.Floor.{floor_div}
use Rattle.ass_num.proofs.LimitLemmas.{IsWithin-wider}
use Rattle.outline_points.specs.Contours.{max_quadratic_weight}
use Rattle.outline_points.specs.Limits.{max_contour, max_unturned}
use Rattle.outline_points.proofs.Bounds.{within_quotient}
use Rattle.outline_points.proofs.contours.quadratic_mean.Goals as goal

is : (c : goal.After-div_euclid) → c.div_euclid.result ≡ floor_div c.sum_of_three.result (pos c.steps_product-4.result)
is c =
    let fs : FitsSigned w64 c.sum_of_three.result = search rules in
    let ff : FitsSigned w64 c.from.result = search rules in
    rw (to_z-of_z fs, to_z-of_z ff, c.from.ensures) at c.div_euclid.ensures

pub returns-clause-value : goal.returns-clause-value
returns-clause-value c =
    let fd : FitsSigned w64 c.div_euclid.result = search rules in
    let fa : FitsSigned w64 c.weighted_part-a.result = search rules in
    let fb : FitsSigned w64 c.weighted_part-b.result = search rules in
    let fc : FitsSigned w64 c.weighted_part-c.result = search rules in
    let sum = rw (to_z-of_z fa, to_z-of_z fb, to_z-of_z fc) at c.sum_of_three.ensures.value in
    let a = rw (to_z-of_z c.ranges.a, c.steps_product.ensures.value) at c.weighted_part-a.ensures.value in
    let b = rw (to_z-of_z c.ranges.b, c.steps_product-2.ensures.value) at c.weighted_part-b.ensures.value in
    let d = rw (to_z-of_z c.ranges.c, c.steps_product-3.ensures.value) at c.weighted_part-c.ensures.value in
    rw (to_z-of_z fd, is c, sum, a, b, d, c.steps_product-4.ensures.value) refl

pub returns-clause-within : goal.returns-clause-within
returns-clause-within c =
    let fd : FitsSigned w64 c.div_euclid.result = search rules in
    let p = c.steps_product-4.result in
    let some : 1 ≤ p = omega (arith, mul-le 1 1 c.args.n c.args.n c.requires.some c.requires.some, c.steps_product-4.ensures.value) in
    rw (to_z-of_z fd, is c)
    (within_quotient max_unturned p c.sum_of_three.result (omega (arith, some))
    (IsWithin-wider (3 * (max_contour * max_quadratic_weight)) (max_unturned * p) c.sum_of_three.result (omega (arith, some)) c.sum_of_three.ensures.within))
