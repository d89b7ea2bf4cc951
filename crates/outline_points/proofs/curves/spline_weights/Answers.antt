use Rattle.std.proofs.Common.{arith}
use Rattle.outline_points.proofs.Steps.{second_weight, third_weight}
use Rattle.outline_points.proofs.curves.spline_weights.Goals as goal

pub returns-clause-most : goal.returns-clause-most
returns-clause-most c =
    let b = second_weight c.args.u c.requires in
    let d = third_weight c.args.u c.requires in
    record { a_most = omega arith; b_most = omega arith; c_most = omega arith; d_most = omega arith }
