use Rattle.std.proofs.Common.{◌∙◌, refl, FitsSigned, to_z-of_z, rules}
use Rattle.outline_points.proofs.Bounds.{within_product}
use Rattle.outline_points.proofs.products.product.Goals as goal
use mir.Syntax.{w128}

pub returns-clause-value : goal.returns-clause-value
returns-clause-value c =
    let fr : FitsSigned w128 c.multiplied.result = search rules in
    rw (to_z-of_z fr) (c.multiplied.ensures ∙ rw (to_z-of_z c.ranges.a, to_z-of_z c.ranges.b) refl)

pub returns-clause-within : goal.returns-clause-within
returns-clause-within c m n p q = rw (returns-clause-value c) (within_product m n c.args.a c.args.b p q)
