use Rattle.std.proofs.Common.{refl, FitsSigned, to_z-of_z, rules, arith, w64}
use Rattle.std.proofs.lemmas.Int.{ints}
use Rattle.outline_points.proofs.cubic_contours.point_of_cubic.Goals as goal

pub returns-clause-value : goal.returns-clause-value
returns-clause-value c =
    let fx : FitsSigned w64 c.cubic_mean.result = search rules in
    let fy : FitsSigned w64 c.cubic_mean-2.result = search rules in
    let fax : FitsSigned w64 c.args.a.x = omega (arith, ints, c.requires.a.x) in
    let fay : FitsSigned w64 c.args.a.y = omega (arith, ints, c.requires.a.y) in
    let fbx : FitsSigned w64 c.args.b.x = omega (arith, ints, c.requires.b.x) in
    let fby : FitsSigned w64 c.args.b.y = omega (arith, ints, c.requires.b.y) in
    let fcx : FitsSigned w64 c.args.c.x = omega (arith, ints, c.requires.c.x) in
    let fcy : FitsSigned w64 c.args.c.y = omega (arith, ints, c.requires.c.y) in
    let fdx : FitsSigned w64 c.args.d.x = omega (arith, ints, c.requires.d.x) in
    let fdy : FitsSigned w64 c.args.d.y = omega (arith, ints, c.requires.d.y) in
    let x = rw (c.from-n.ensures, c.from-u.ensures, to_z-of_z fax, to_z-of_z fbx, to_z-of_z fcx, to_z-of_z fdx) at c.cubic_mean.ensures.value in
    let y = rw (c.from-n.ensures, c.from-u.ensures, to_z-of_z fay, to_z-of_z fby, to_z-of_z fcy, to_z-of_z fdy) at c.cubic_mean-2.ensures.value in
    rw (to_z-of_z fx, to_z-of_z fy, x, y) refl
