use Rattle.std.proofs.Common.{◌≡◌, FitsSigned, to_z-of_z, rules}
use Rattle.ass_num.specs.Limits.{IsWithin}
use Rattle.text_layout.specs.Limits.{max_framed}
use Rattle.text_layout.specs.Metrics.{spacing_of}
use Rattle.text_layout.proofs.ScaleLemmas.{held_is_number, length_fits, spacing_within}
use Rattle.text_layout.proofs.metrics.spacing_of.Goals as goal
use mir.Syntax.{w128}

spacing_is : (c : goal.After-divided) → c.divided.result ≡ spacing_of c.args.spacing c.args.scale c.args.side c.args.res
spacing_is c =
    let fits : FitsSigned w128 c.product.result = search rules in
    rw (to_z-of_z fits, c.product.ensures.value, to_z-of_z c.ranges.spacing, to_z-of_z c.ranges.scale, c.from.ensures, c.from-divisor.ensures) at c.divided.ensures

near : (c : goal.After-divided) → IsWithin max_framed (spacing_of c.args.spacing c.args.scale c.args.side c.args.res)
near c =
    spacing_within c.args.spacing c.args.scale c.args.side c.args.res c.requires.spacing (held_is_number c.args.scale c.requires.scale) c.requires.side c.requires.res

pub overflow_cast-result : goal.overflow_cast-result
overflow_cast-result c =
    let fits : FitsSigned w128 c.divided.result = search rules in
    rw (to_z-of_z fits, spacing_is c) (length_fits _ (near c))

pub returns-clause-value : goal.returns-clause-value
returns-clause-value c =
    let fits : FitsSigned w128 c.divided.result = search rules in
    rw (to_z-of_z fits, spacing_is c) (to_z-of_z (length_fits _ (near c)))

pub returns-clause-within : goal.returns-clause-within
returns-clause-within c = rw (returns-clause-value c) (near c)
