use Rattle.std.proofs.Common.{arith, rules, to_z-of_z, FitsSigned, pos, ◌+ℤ◌, ◌-ℤ◌, ◌≤ℤ◌, negsuc, w64}
use Rattle.std.proofs.lemmas.Int.{ints}
use Rattle.sample_region.proofs.SignedLemmas.{same_sum}
use Rattle.sample_region.proofs.cut.number_of.Goals as goal

pub multiplied-start-requires-clause-low_a : goal.multiplied-start-requires-clause-low_a
multiplied-start-requires-clause-low_a c = omega (arith, ints)

pub multiplied-start-requires-clause-high_a : goal.multiplied-start-requires-clause-high_a
multiplied-start-requires-clause-high_a c = omega (arith, ints)

pub multiplied-start-requires-clause-low_b : goal.multiplied-start-requires-clause-low_b
multiplied-start-requires-clause-low_b c = omega (arith, ints)

pub multiplied-start-requires-clause-high_b : goal.multiplied-start-requires-clause-high_b
multiplied-start-requires-clause-high_b c = omega (arith, ints)

pub overflow_sub-b-2 : goal.overflow_sub-b-2
overflow_sub-b-2 c = omega (arith, ints)

pub overflow_add-result : goal.overflow_add-result
overflow_add-result c = omega (arith, ints)

pub overflow_sub-result : goal.overflow_sub-result
overflow_sub-result c = omega (arith, ints)

pub returns-clause-low : goal.returns-clause-low
returns-clause-low c =
    let fj : FitsSigned w64 c.multiplied-right.result = search rules in
    let fk : FitsSigned w64 c.multiplied-start.result = search rules in
    let fl : FitsSigned w64 (c.multiplied-right.result +ℤ c.multiplied-start.result) = omega (arith, ints) in
    let fm : FitsSigned w64 (c.multiplied-right.result +ℤ c.multiplied-start.result -ℤ pos 1) = omega (arith, ints) in
    let r = c.multiplied-right.ensures.low in
    let s = c.multiplied-start.ensures.low in
    let bound : negsuc 2199023255552 ≤ℤ (c.multiplied-right.result +ℤ c.multiplied-start.result -ℤ pos 1) = omega (arith, ints) in
    simp to_z-of_z bound

pub returns-clause-high : goal.returns-clause-high
returns-clause-high c =
    let fj : FitsSigned w64 c.multiplied-right.result = search rules in
    let fk : FitsSigned w64 c.multiplied-start.result = search rules in
    let fl : FitsSigned w64 (c.multiplied-right.result +ℤ c.multiplied-start.result) = omega (arith, ints) in
    let fm : FitsSigned w64 (c.multiplied-right.result +ℤ c.multiplied-start.result -ℤ pos 1) = omega (arith, ints) in
    let r = c.multiplied-right.ensures.high in
    let s = c.multiplied-start.ensures.high in
    let bound : (c.multiplied-right.result +ℤ c.multiplied-start.result -ℤ pos 1) ≤ℤ pos 2199023255552 = omega (arith, ints) in
    simp to_z-of_z bound

pub returns-clause-value : goal.returns-clause-value
returns-clause-value c =
    let fa : FitsSigned w64 c.args.a.x = omega (arith, ints) in
    let fb : FitsSigned w64 c.args.a.y = omega (arith, ints) in
    let fc : FitsSigned w64 c.args.b.x = omega (arith, ints) in
    let fd : FitsSigned w64 c.args.b.y = omega (arith, ints) in
    let fe : FitsSigned w64 c.args.y = c.ranges.y in
    let ff : FitsSigned w64 (c.args.b.x -ℤ c.args.a.x) = omega (arith, ints) in
    let fg : FitsSigned w64 (c.args.y -ℤ c.args.a.y) = omega (arith, ints) in
    let fh : FitsSigned w64 (c.args.a.x +ℤ pos 2) = omega (arith, ints) in
    let fi : FitsSigned w64 (c.args.b.y -ℤ c.args.a.y) = omega (arith, ints) in
    let fj : FitsSigned w64 c.multiplied-right.result = search rules in
    let fk : FitsSigned w64 c.multiplied-start.result = search rules in
    let fl : FitsSigned w64 (c.multiplied-right.result +ℤ c.multiplied-start.result) = omega (arith, ints) in
    let fm : FitsSigned w64 (c.multiplied-right.result +ℤ c.multiplied-start.result -ℤ pos 1) = omega (arith, ints) in
    let r = simp to_z-of_z at c.multiplied-right.ensures.value in
    let s = simp to_z-of_z at c.multiplied-start.ensures.value in
    simp to_z-of_z (same_sum r s)
