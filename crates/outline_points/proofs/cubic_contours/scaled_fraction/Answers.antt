use Rattle.std.proofs.Common.{◌≡◌, ◌*ℤ◌, ◌*◌, ◌∙◌, pos, refl, FitsSigned, to_z-of_z, rules, arith, w64}
use Rattle.std.proofs.lemmas.Int.{ints}
use Rattle.ass_num.specs.Floor.{floor_div}
use Rattle.ass_num.specs.Limits.{IsWithin}
use Rattle.ass_num.proofs.LimitLemmas.{IsWithin-wider}
use Rattle.outline_points.specs.CubicContours.{max_stroke, stroke_unit}
use Rattle.outline_points.specs.Limits.{max_scale, max_scaled_length}
use Rattle.outline_points.proofs.Bounds.{scale_within, within_product, within_quotient}
use Rattle.outline_points.proofs.cubic_contours.scaled_fraction.Goals as goal
use mir.Syntax.{w128}

product_is : (c : goal.After-div_floor) → c.product.result ≡ c.args.coordinate *ℤ c.args.scale
product_is c = c.product.ensures.value ∙ rw (to_z-of_z c.ranges.coordinate, to_z-of_z c.ranges.scale) refl

is : (c : goal.After-div_floor) → c.div_floor.result ≡ floor_div (c.args.coordinate *ℤ c.args.scale) (pos stroke_unit)
is c =
    let fp : FitsSigned w128 c.product.result = search rules in
    let fu : FitsSigned w128 (pos stroke_unit) = omega (arith, ints) in
    rw (to_z-of_z fp, to_z-of_z fu, product_is c) at c.div_floor.ensures.value

small : (c : goal.After-div_floor) → IsWithin max_scaled_length c.div_floor.result
small c = rw (is c) (within_quotient max_scaled_length stroke_unit (c.args.coordinate *ℤ c.args.scale) (omega arith)
    (IsWithin-wider (max_stroke * max_scale) (max_scaled_length * stroke_unit) (c.args.coordinate *ℤ c.args.scale) (omega arith)
    (within_product max_stroke max_scale c.args.coordinate c.args.scale c.requires.coordinate (scale_within c.args.scale c.requires.scale))))

fits : (c : goal.After-div_floor) → FitsSigned w64 c.div_floor.result
fits c = omega (arith, ints, small c)

pub overflow_cast-result : goal.overflow_cast-result
overflow_cast-result c =
    let fd : FitsSigned w128 c.div_floor.result = search rules in
    rw (to_z-of_z fd) (fits c)

pub returns-clause-value : goal.returns-clause-value
returns-clause-value c =
    let fd : FitsSigned w128 c.div_floor.result = search rules in
    rw (to_z-of_z fd, to_z-of_z (fits c)) (is c)

pub returns-clause-within : goal.returns-clause-within
returns-clause-within c =
    let fd : FitsSigned w128 c.div_floor.result = search rules in
    rw (to_z-of_z fd, to_z-of_z (fits c)) (small c)
