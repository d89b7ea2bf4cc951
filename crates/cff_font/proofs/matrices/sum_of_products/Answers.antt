use Rattle.std.proofs.Common.{◌+ℤ◌, FitsSigned, to_z-of_z, rules, arith, refl}
use Rattle.std.proofs.lemmas.Int.{ints}
use Rattle.outline_points.proofs.Bounds.{within_sum}
use Rattle.cff_font.proofs.Shares.{shared_product}
use Rattle.cff_font.proofs.matrices.sum_of_products.Goals as goal
use mir.Syntax.{w128}

pub overflow_add-result : goal.overflow_add-result
overflow_add-result c =
    let p = (shared_product _ _ _ c.multiplied.ensures c.ranges.a c.ranges.b c.requires.a).1 in
    let q = (shared_product _ _ _ c.multiplied-2.ensures c.ranges.c c.ranges.d c.requires.c).1 in
    omega (arith, ints)

pub returns-clause-value : goal.returns-clause-value
returns-clause-value c =
    let p = shared_product _ _ _ c.multiplied.ensures c.ranges.a c.ranges.b c.requires.a in
    let q = shared_product _ _ _ c.multiplied-2.ensures c.ranges.c c.ranges.d c.requires.c in
    let p1 = p.1 in let q1 = q.1 in
    let fp : FitsSigned w128 c.multiplied.result = search rules in
    let fq : FitsSigned w128 c.multiplied-2.result = search rules in
    let fs : FitsSigned w128 (c.multiplied.result +ℤ c.multiplied-2.result) = omega (arith, ints) in
    rw (to_z-of_z fp, to_z-of_z fq, to_z-of_z fs, p.0, q.0) refl

pub returns-clause-within : goal.returns-clause-within
returns-clause-within c =
    let p = shared_product _ _ _ c.multiplied.ensures c.ranges.a c.ranges.b c.requires.a in
    let q = shared_product _ _ _ c.multiplied-2.ensures c.ranges.c c.ranges.d c.requires.c in
    let p1 = p.1 in let q1 = q.1 in
    let fp : FitsSigned w128 c.multiplied.result = search rules in
    let fq : FitsSigned w128 c.multiplied-2.result = search rules in
    let fs : FitsSigned w128 (c.multiplied.result +ℤ c.multiplied-2.result) = omega (arith, ints) in
    rw (to_z-of_z fp, to_z-of_z fq, to_z-of_z fs) (within_sum _ _ _ _ p.1 q.1).0
