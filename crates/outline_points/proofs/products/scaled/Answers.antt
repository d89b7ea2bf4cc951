use Rattle.std.proofs.Common.{◌≡◌, ◌*ℤ◌, ◌*◌, ◌∙◌, refl, FitsSigned, to_z-of_z, rules, arith, w64}
use Rattle.ass_num.specs.Limits.{IsWithin}
use Rattle.outline_points.specs.Limits.{max_scaled, max_unturned}
use Rattle.ass_num.proofs.LimitLemmas.{IsWithin-wider}
use Rattle.outline_points.proofs.Bounds.{max_scaled_number, scaled_within}
use Rattle.outline_points.proofs.products.scaled.Goals as goal
use mir.Syntax.{w128}

is : (c : goal.After-product) → c.product.result ≡ c.args.a *ℤ c.args.u
is c = c.product.ensures.value ∙ rw (to_z-of_z c.ranges.a, to_z-of_z c.ranges.u) refl

product_within : (c : goal.After-product) → IsWithin (max_scaled_number * c.args.unit) c.product.result
product_within c = rw (is c) (scaled_within c.args.a c.args.u c.args.unit c.requires.number c.requires.scale c.requires.unit)

pub quotient-requires-clause-within : goal.quotient-requires-clause-within
quotient-requires-clause-within c =
    let fp : FitsSigned w128 c.product.result = search rules in
    rw (to_z-of_z fp) (IsWithin-wider (max_scaled_number * c.args.unit) (2 * max_unturned * c.args.unit) c.product.result (omega arith) (product_within c))

pub returns-clause-value : goal.returns-clause-value
returns-clause-value c =
    let fp : FitsSigned w128 c.product.result = search rules in
    let fq : FitsSigned w64 c.quotient.result = search rules in
    rw (to_z-of_z fq) (c.quotient.ensures.value ∙ rw (to_z-of_z fp, is c.before) refl)

pub returns-clause-within : goal.returns-clause-within
returns-clause-within c =
    let fp : FitsSigned w128 c.product.result = search rules in
    let fq : FitsSigned w64 c.quotient.result = search rules in
    rw (to_z-of_z fq) (IsWithin-wider max_scaled_number max_scaled c.quotient.result (omega arith) (c.quotient.ensures.within max_scaled_number (rw (to_z-of_z fp) (product_within c.before))))
