use Rattle.std.proofs.Common.{FitsSigned, to_z-of_z, refl, rules, w64, arith}
use Rattle.std.proofs.lemmas.Int.{ints}
use Rattle.outline_points.proofs.curves.weighted_point.Goals as goal

pub returns-clause-value : goal.returns-clause-value
returns-clause-value c =
    let p : FitsSigned w64 c.weighted_mean.result = search rules in
    let q : FitsSigned w64 c.weighted_mean-2.result = search rules in
    let ax : FitsSigned w64 c.args.a.x = omega (arith, ints) in
    let ay : FitsSigned w64 c.args.a.y = omega (arith, ints) in
    let bx : FitsSigned w64 c.args.b.x = omega (arith, ints) in
    let by : FitsSigned w64 c.args.b.y = omega (arith, ints) in
    let cx : FitsSigned w64 c.args.c.x = omega (arith, ints) in
    let cy : FitsSigned w64 c.args.c.y = omega (arith, ints) in
    let dx : FitsSigned w64 c.args.d.x = omega (arith, ints) in
    let dy : FitsSigned w64 c.args.d.y = omega (arith, ints) in
    let x = simp to_z-of_z at c.weighted_mean.ensures.value in
    let y = simp to_z-of_z at c.weighted_mean-2.ensures.value in
    rw (to_z-of_z p, to_z-of_z q, x, y) refl
