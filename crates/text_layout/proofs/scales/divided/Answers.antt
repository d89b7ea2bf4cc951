use Rattle.std.proofs.Common.{◌≡◌, ◌*ℤ◌, pos, FitsSigned, to_z-of_z, rules, arith}
use Rattle.std.proofs.lemmas.Int.{ints}
use Rattle.text_layout.proofs.ScaleLemmas.{dividend_fits, dividend_within}
use Rattle.text_layout.proofs.scales.divided.Goals as goal
use mir.Syntax.{w128}

pub returns : goal.returns
returns c =
    let factor : c.from.result ≡ pos c.args.factor = omega (arith, ints, c.from.ensures) in
    let ff : FitsSigned w128 c.from.result = search rules in
    let few : FitsSigned w128 (pos c.args.divisor) = omega (arith, ints, c.requires.most) in
    let fp : FitsSigned w128 (c.args.a *ℤ pos c.args.factor) = dividend_fits _ (dividend_within c.args.a c.args.factor c.requires.number c.requires.factor) in
    let fr : FitsSigned w128 c.div_floor.result = search rules in
    rw (to_z-of_z fr) (rw (to_z-of_z c.ranges.a, to_z-of_z ff, factor, to_z-of_z fp, to_z-of_z few) at c.div_floor.ensures.value)
