use Rattle.std.proofs.Common.{◌+ℤ◌, FitsSigned, to_z-of_z, refl, rules, arith, w64}
use Rattle.std.proofs.lemmas.Int.{ints}
use Rattle.outline_points.specs.Limits.{max_contour}
use Rattle.outline_points.proofs.Bounds.{within_quotient}
use Rattle.outline_points.proofs.contours.middle.Goals as goal

pub returns-clause-value : goal.returns-clause-value
returns-clause-value c =
    let p : FitsSigned w64 c.div_euclid.result = search rules in
    let q : FitsSigned w64 c.div_euclid-2.result = search rules in
    let ax : FitsSigned w64 c.args.a.x = omega (arith, ints, c.requires.a.x) in
    let ay : FitsSigned w64 c.args.a.y = omega (arith, ints, c.requires.a.y) in
    let bx : FitsSigned w64 c.args.b.x = omega (arith, ints, c.requires.b.x) in
    let by : FitsSigned w64 c.args.b.y = omega (arith, ints, c.requires.b.y) in
    let sx : FitsSigned w64 (c.args.a.x +ℤ c.args.b.x) = omega (arith, ints, c.requires.a.x, c.requires.b.x) in
    let sy : FitsSigned w64 (c.args.a.y +ℤ c.args.b.y) = omega (arith, ints, c.requires.a.y, c.requires.b.y) in
    let x = simp to_z-of_z at c.div_euclid.ensures in
    let y = simp to_z-of_z at c.div_euclid-2.ensures in
    rw (to_z-of_z p, to_z-of_z q, x, y) refl

pub returns-clause-within : goal.returns-clause-within
returns-clause-within c =
    rw (returns-clause-value c) (record {
      x = within_quotient max_contour 2 (c.args.a.x +ℤ c.args.b.x) (omega arith) (omega (arith, ints, c.requires.a.x, c.requires.b.x), omega (arith, ints, c.requires.a.x, c.requires.b.x));
      y = within_quotient max_contour 2 (c.args.a.y +ℤ c.args.b.y) (omega arith) (omega (arith, ints, c.requires.a.y, c.requires.b.y), omega (arith, ints, c.requires.a.y, c.requires.b.y));
    })
