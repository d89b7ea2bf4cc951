use Rattle.std.proofs.Common.{◌*◌, refl, FitsSigned, to_z-of_z, rules, arith, w64}
use Rattle.std.proofs.lemmas.Int.{ints}
use Rattle.std.proofs.lemmas.Nat.{mul-le}
use Rattle.outline_points.proofs.cubic_contours.steps_unit.Goals as goal

pub returns-clause-value : goal.returns-clause-value
returns-clause-value c =
    let ff : FitsSigned w64 c.from.result = search rules in
    rw (to_z-of_z ff, c.from.ensures, c.steps_cube.ensures.value) refl

pub returns-clause-least : goal.returns-clause-least
returns-clause-least c =
    let n = c.args.n in
    rw (returns-clause-value c) (omega (arith, ints, mul-le 1 1 (n * n) n (mul-le 1 1 n n c.requires.some c.requires.some) c.requires.some))
