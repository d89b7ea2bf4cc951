use Rattle.std.proofs.Common.{rules, to_z-of_z, FitsSigned, w64}
use Rattle.sample_region.proofs.CarryLemmas.{quotient_parts}
use Rattle.sample_region.proofs.carried.quotient.Goals as goal

pub returns-clause-value : goal.returns-clause-value
returns-clause-value c =
    let fa : FitsSigned w64 c.args.number = c.ranges.number in
    let fb : FitsSigned w64 c.args.divisor = c.ranges.divisor in
    let fr : FitsSigned w64 c.div_euclid.result = search rules in
    let x = simp to_z-of_z at c.div_euclid.ensures in
    simp to_z-of_z x

pub returns-clause-least : goal.returns-clause-least
returns-clause-least c = rw (returns-clause-value c) (quotient_parts c.args.number c.args.divisor c.requires.positive).0

pub returns-clause-most : goal.returns-clause-most
returns-clause-most c = rw (returns-clause-value c) (quotient_parts c.args.number c.args.divisor c.requires.positive).1
