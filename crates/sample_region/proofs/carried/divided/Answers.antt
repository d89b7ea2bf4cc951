use Rattle.std.proofs.Common.{rules, to_z-of_z, FitsSigned, w64}
use Rattle.sample_region.proofs.BegunLemmas.{divided}
use Rattle.sample_region.proofs.carried.divided.Goals as goal

pub returns : goal.returns
returns c =
    let fa : FitsSigned w64 c.args.number = c.ranges.number in
    let fb : FitsSigned w64 c.args.divisor = c.ranges.divisor in
    let fq : FitsSigned w64 c.quotient-whole.result = search rules in
    let fo : FitsSigned w64 c.rest.result = search rules in
    let least = simp to_z-of_z at c.quotient-whole.ensures.least in
    let most = simp to_z-of_z at c.quotient-whole.ensures.most in
    let over = simp to_z-of_z at c.rest.ensures in
    simp to_z-of_z (divided c.args.number c.args.divisor (record { whole = c.quotient-whole.result; over = c.rest.result }) over least most)
