use Rattle.std.proofs.Common.{◌*◌, FitsSigned, to_z-of_z, rules, arith, w64}
use Rattle.outline_points.specs.Curves.{max_weight}
use Rattle.outline_points.specs.Limits.{max_length, max_scaled, max_unturned}
use Rattle.ass_num.proofs.LimitLemmas.{IsWithin-wider}
use Rattle.outline_points.proofs.curves.weighted_mean.Goals as goal
use mir.Syntax.{w128}

pub quotient-requires-clause-within : goal.quotient-requires-clause-within
quotient-requires-clause-within c =
    let f : FitsSigned w128 c.weighted.result = search rules in
    rw (to_z-of_z f) (IsWithin-wider (4 * (max_scaled * max_weight)) (2 * max_unturned * c.args.unit) c.weighted.result (omega arith) c.weighted.ensures.within)

pub returns-clause-within : goal.returns-clause-within
returns-clause-within c =
    let f : FitsSigned w128 c.weighted.result = search rules in
    let q : FitsSigned w64 c.quotient.result = search rules in
    rw (to_z-of_z q) (c.quotient.ensures.within max_length (rw (to_z-of_z f) (IsWithin-wider (4 * (max_scaled * max_weight)) (max_length * c.args.unit) c.weighted.result (omega arith) c.weighted.ensures.within)))
