use Rattle.std.proofs.Common.{◌≡◌, ◌*◌, pos, FitsSigned, to_z-of_z, rules, arith, w64}
use Rattle.std.proofs.lemmas.Int.{ints}
use Rattle.ass_num.specs.Floor.{floor_div}
use Rattle.ass_num.specs.Limits.{IsWithin}
use Rattle.outline_points.specs.Limits.{max_unturned}
use Rattle.outline_points.proofs.Bounds.{within_quotient, fits_from_within}
use Rattle.outline_points.proofs.products.quotient.Goals as goal
use mir.Syntax.{w128}

is : (c : goal.After-div_floor) → c.div_floor.result ≡ floor_div c.args.a (pos c.args.unit)
is c =
    let u : c.from.result ≡ pos c.args.unit = omega (arith, ints, c.from.ensures) in
    let fu : FitsSigned w128 c.from.result = search rules in
    rw (to_z-of_z c.ranges.a, to_z-of_z fu, u) at c.div_floor.ensures.value

small : (c : goal.After-div_floor) → IsWithin (2 * max_unturned) c.div_floor.result
small c = rw (is c) (within_quotient (2 * max_unturned) c.args.unit c.args.a c.requires.unit c.requires.within)

pub overflow_cast-result : goal.overflow_cast-result
overflow_cast-result c =
    let fd : FitsSigned w128 c.div_floor.result = search rules in
    rw (to_z-of_z fd) (fits_from_within c.div_floor.result (small c))

pub returns-clause-value : goal.returns-clause-value
returns-clause-value c =
    let fd : FitsSigned w128 c.div_floor.result = search rules in
    let fs : FitsSigned w64 c.div_floor.result = fits_from_within c.div_floor.result (small c) in
    rw (to_z-of_z fd, to_z-of_z fs) (is c)

pub returns-clause-within : goal.returns-clause-within
returns-clause-within c m h =
    rw (returns-clause-value c) (within_quotient m c.args.unit c.args.a c.requires.unit h)
