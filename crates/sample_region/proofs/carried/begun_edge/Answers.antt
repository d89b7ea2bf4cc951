use Rattle.std.proofs.Common.{arith, rules, to_z-of_z, FitsSigned, w32, w64}
use Rattle.std.proofs.lemmas.Int.{ints}
use Rattle.sample_region.specs.Carried.{IsDivision}
use Rattle.sample_region.proofs.BegunLemmas.{IsDividedFor, begun, begun_fits, divisor_small, ends_fit, step_fits}
use Rattle.sample_region.proofs.carried.begun_edge.Goals as goal

pub divided-at-requires-clause-positive : goal.divided-at-requires-clause-positive
divided-at-requires-clause-positive c =
    let f = ends_fit c.args.e c.requires.edge in
    let fd : FitsSigned w64 c.fourfold-divisor.result = search rules in
    let d = rw (to_z-of_z f.1, to_z-of_z f.3) at c.fourfold-divisor.ensures.value in
    rw (to_z-of_z fd) (divisor_small c.args.y c.args.e c.fourfold-divisor.result c.requires d).0

pub divided-at-requires-clause-high : goal.divided-at-requires-clause-high
divided-at-requires-clause-high c = let high = c.number_of-number.ensures.high in omega (arith, ints)

pub divided-step-requires-clause-low : goal.divided-step-requires-clause-low
divided-step-requires-clause-low c = let low = c.fourfold-growth.ensures.low in omega (arith, ints)

pub divided-step-requires-clause-high : goal.divided-step-requires-clause-high
divided-step-requires-clause-high c = let high = c.fourfold-growth.ensures.high in omega (arith, ints)

pub overflow_cast-result : goal.overflow_cast-result
overflow_cast-result c =
    let f = ends_fit c.args.e c.requires.edge in
    let fa = f.0 in
    let fb = f.1 in
    let fc = f.2 in
    let fe = f.3 in
    let fy : FitsSigned w64 c.args.y = c.ranges.y in
    let fd : FitsSigned w64 c.fourfold-divisor.result = search rules in
    let fn : FitsSigned w64 c.number_of-number.result = search rules in
    let fg : FitsSigned w64 c.fourfold-growth.result = search rules in
    let is : IsDividedFor c.args.y c.args.e c.fourfold-divisor.result c.number_of-number.result c.fourfold-growth.result =
    record { crossed = c.requires; divisor_is = simp to_z-of_z at c.fourfold-divisor.ensures.value; number_is = simp to_z-of_z at c.number_of-number.ensures.value; growth_is = simp to_z-of_z at c.fourfold-growth.ensures.value } in
    let whole : IsDivision c.number_of-number.result c.fourfold-divisor.result c.divided-at.result = rw (to_z-of_z fn, to_z-of_z fd) at c.divided-at.ensures in
    let steps : IsDivision c.fourfold-growth.result c.fourfold-divisor.result c.divided-step.result = rw (to_z-of_z fg, to_z-of_z fd) at c.divided-step.ensures in
    let fw : FitsSigned w64 c.divided-at.result.whole = search rules in
    rw (to_z-of_z fw) (begun_fits c.args.y c.args.e c.fourfold-divisor.result c.number_of-number.result c.fourfold-growth.result c.divided-at.result c.divided-step.result is whole steps)

pub overflow_cast-result-2 : goal.overflow_cast-result-2
overflow_cast-result-2 c =
    let f = ends_fit c.args.e c.requires.edge in
    let fd : FitsSigned w64 c.fourfold-divisor.result = search rules in
    let fg : FitsSigned w64 c.fourfold-growth.result = search rules in
    let d = rw (to_z-of_z f.1, to_z-of_z f.3) at c.fourfold-divisor.ensures.value in
    let steps : IsDivision c.fourfold-growth.result c.fourfold-divisor.result c.divided-step.result = rw (to_z-of_z fg, to_z-of_z fd) at c.divided-step.ensures in
    let fs : FitsSigned w64 c.divided-step.result.whole = search rules in
    rw (to_z-of_z fs)
    (step_fits c.fourfold-growth.result c.fourfold-divisor.result c.divided-step.result (divisor_small c.args.y c.args.e c.fourfold-divisor.result c.requires d).0 c.fourfold-growth.ensures.low c.fourfold-growth.ensures.high steps)

pub returns-clause-carried : goal.returns-clause-carried
returns-clause-carried c =
    let f = ends_fit c.args.e c.requires.edge in
    let fa = f.0 in
    let fb = f.1 in
    let fc = f.2 in
    let fe = f.3 in
    let fy : FitsSigned w64 c.args.y = c.ranges.y in
    let fd : FitsSigned w64 c.fourfold-divisor.result = search rules in
    let fn : FitsSigned w64 c.number_of-number.result = search rules in
    let fg : FitsSigned w64 c.fourfold-growth.result = search rules in
    let fo : FitsSigned w64 c.divided-at.result.whole = search rules in
    let fp : FitsSigned w64 c.divided-step.result.whole = search rules in
    let fq : FitsSigned w64 c.divided-at.result.over = search rules in
    let fr : FitsSigned w64 c.divided-step.result.over = search rules in
    let is : IsDividedFor c.args.y c.args.e c.fourfold-divisor.result c.number_of-number.result c.fourfold-growth.result =
    record { crossed = c.requires; divisor_is = simp to_z-of_z at c.fourfold-divisor.ensures.value; number_is = simp to_z-of_z at c.number_of-number.ensures.value; growth_is = simp to_z-of_z at c.fourfold-growth.ensures.value } in
    let whole : IsDivision c.number_of-number.result c.fourfold-divisor.result c.divided-at.result = rw (to_z-of_z fn, to_z-of_z fd) at c.divided-at.ensures in
    let steps : IsDivision c.fourfold-growth.result c.fourfold-divisor.result c.divided-step.result = rw (to_z-of_z fg, to_z-of_z fd) at c.divided-step.ensures in
    let fw : FitsSigned w32 c.divided-at.result.whole =
    begun_fits c.args.y c.args.e c.fourfold-divisor.result c.number_of-number.result c.fourfold-growth.result c.divided-at.result c.divided-step.result is whole steps in
    let small = divisor_small c.args.y c.args.e c.fourfold-divisor.result c.requires is.divisor_is in
    let fs : FitsSigned w32 c.divided-step.result.whole =
    step_fits c.fourfold-growth.result c.fourfold-divisor.result c.divided-step.result small.0 c.fourfold-growth.ensures.low c.fourfold-growth.ensures.high steps in
    rw (to_z-of_z fo, to_z-of_z fw, to_z-of_z fp, to_z-of_z fs, to_z-of_z fq, to_z-of_z fr, to_z-of_z fd) (begun c.args.y c.args.e c.fourfold-divisor.result c.number_of-number.result c.fourfold-growth.result c.divided-at.result c.divided-step.result is whole steps)
