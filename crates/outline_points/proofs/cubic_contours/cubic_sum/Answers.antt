use Rattle.std.proofs.Common.{◌+ℤ◌, FitsSigned, w64, to_z-of_z, refl, arith}
use Rattle.std.proofs.lemmas.Int.{ints}
use Rattle.outline_points.proofs.cubic_contours.cubic_sum.Goals as goal

pub overflow_add-result : goal.overflow_add-result
overflow_add-result c = rw (to_z-of_z c.ranges.a, to_z-of_z c.ranges.b) (omega (arith, ints))

pub overflow_add-result-2 : goal.overflow_add-result-2
overflow_add-result-2 c =
    let f : FitsSigned w64 (c.args.a +ℤ c.args.b) = omega (arith, ints) in
    rw (to_z-of_z c.ranges.a, to_z-of_z c.ranges.b, to_z-of_z f, to_z-of_z c.ranges.c) (omega (arith, ints))

pub overflow_add-result-3 : goal.overflow_add-result-3
overflow_add-result-3 c =
    let f : FitsSigned w64 (c.args.a +ℤ c.args.b) = omega (arith, ints) in
    let g : FitsSigned w64 (c.args.a +ℤ c.args.b +ℤ c.args.c) = omega (arith, ints) in
    rw (to_z-of_z c.ranges.a, to_z-of_z c.ranges.b, to_z-of_z f, to_z-of_z c.ranges.c, to_z-of_z g, to_z-of_z c.ranges.d) (omega (arith, ints))

pub returns-clause-value : goal.returns-clause-value
returns-clause-value c =
    let f : FitsSigned w64 (c.args.a +ℤ c.args.b) = omega (arith, ints) in
    let g : FitsSigned w64 (c.args.a +ℤ c.args.b +ℤ c.args.c) = omega (arith, ints) in
    let h : FitsSigned w64 (c.args.a +ℤ c.args.b +ℤ c.args.c +ℤ c.args.d) = omega (arith, ints) in
    rw (to_z-of_z c.ranges.a, to_z-of_z c.ranges.b, to_z-of_z f, to_z-of_z c.ranges.c, to_z-of_z g, to_z-of_z c.ranges.d, to_z-of_z h) refl

pub returns-clause-within : goal.returns-clause-within
returns-clause-within c = rw (returns-clause-value c) ((omega (arith, ints), omega (arith, ints)))
