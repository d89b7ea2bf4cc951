use Rattle.std.proofs.Common.{◌+ℤ◌, ◌-ℤ◌, refl, ◌≡◌, ◌+◌, ◌*◌, ℕ, ℤ, pos, FitsSigned, to_z-of_z, rules, arith, w64}
use Rattle.std.proofs.lemmas.Int.{ints}
use Rattle.ass_num.specs.Floor.{floor_div}
use Rattle.ass_num.specs.Limits.{IsWithin}
use Rattle.ass_num.specs.Sine.{max_sine}
use Rattle.ass_num.proofs.LimitLemmas.{IsWithin-wider}
use Rattle.outline_points.proofs.Bounds.{turned_product, within_product, within_quotient, within_sum}
use Rattle.outline_points.proofs.placing.turned_by.Goals as goal
use mir.Syntax.{w128}

pub overflow_add-x_cosine : goal.overflow_add-x_cosine
overflow_add-x_cosine c =
    let p = (turned_product _ _ _ c.product-x_cosine.ensures.value c.requires.point.x c.requires.cosine).1 in
    let q = (turned_product _ _ _ c.product-y_sine.ensures.value c.requires.point.y c.requires.sine).1 in
    omega (arith, ints)

pub overflow_sub-y_cosine : goal.overflow_sub-y_cosine
overflow_sub-y_cosine c =
    let p = (turned_product _ _ _ c.product-y_cosine.ensures.value c.requires.point.y c.requires.cosine).1 in
    let q = (turned_product _ _ _ c.product-x_sine.ensures.value c.requires.point.x c.requires.sine).1 in
    omega (arith, ints)

pub quotient-requires-clause-within : goal.quotient-requires-clause-within
quotient-requires-clause-within c =
    let p = (turned_product _ _ _ c.product-x_cosine.ensures.value c.requires.point.x c.requires.cosine).1 in
    let q = (turned_product _ _ _ c.product-y_sine.ensures.value c.requires.point.y c.requires.sine).1 in
    (omega (arith, ints), omega (arith, ints))

pub quotient-requires-2-clause-within : goal.quotient-requires-2-clause-within
quotient-requires-2-clause-within c =
    let p = (turned_product _ _ _ c.product-y_cosine.ensures.value c.requires.point.y c.requires.cosine).1 in
    let q = (turned_product _ _ _ c.product-x_sine.ensures.value c.requires.point.x c.requires.sine).1 in
    (omega (arith, ints), omega (arith, ints))

pub returns-clause-value : goal.returns-clause-value
returns-clause-value c =
    let p = turned_product _ _ _ c.product-x_cosine.ensures.value c.requires.point.x c.requires.cosine in
    let q = turned_product _ _ _ c.product-y_sine.ensures.value c.requires.point.y c.requires.sine in
    let r = turned_product _ _ _ c.product-y_cosine.ensures.value c.requires.point.y c.requires.cosine in
    let s = turned_product _ _ _ c.product-x_sine.ensures.value c.requires.point.x c.requires.sine in
    let fp : FitsSigned w128 c.product-x_cosine.result = search rules in
    let fq : FitsSigned w128 c.product-y_sine.result = search rules in
    let fr : FitsSigned w128 c.product-y_cosine.result = search rules in
    let fs : FitsSigned w128 c.product-x_sine.result = search rules in
    let p1 = p.1 in let q1 = q.1 in let r1 = r.1 in let s1 = s.1 in
    let fa : FitsSigned w128 (c.product-x_cosine.result +ℤ c.product-y_sine.result) = omega (arith, ints) in
    let fb : FitsSigned w128 (c.product-y_cosine.result -ℤ c.product-x_sine.result) = omega (arith, ints) in
    let fx : FitsSigned w64 c.quotient.result = search rules in
    let fy : FitsSigned w64 c.quotient-2.result = search rules in
    let x = simp to_z-of_z at c.quotient.ensures.value in
    let y = simp to_z-of_z at c.quotient-2.ensures.value in
    rw (to_z-of_z fx, to_z-of_z fy, x, y, p.0, q.0, r.0, s.0) refl

-- a quotient of a sum of two products by sines
mean_within : (m : ℕ) (a q : ℤ) → q ≡ floor_div a (pos max_sine) → IsWithin (m * max_sine + m * max_sine) a → IsWithin (2 * m) q
mean_within m a q is h = rw is (within_quotient (2 * m) max_sine a (omega arith) (IsWithin-wider (m * max_sine + m * max_sine) (2 * m * max_sine) a (omega arith) h))

pub returns-clause-within : goal.returns-clause-within
returns-clause-within c m near =
    let xc = within_product m max_sine c.args.p.x c.args.cosine near.x c.requires.cosine in
    let ys = within_product m max_sine c.args.p.y c.args.sine near.y c.requires.sine in
    let yc = within_product m max_sine c.args.p.y c.args.cosine near.y c.requires.cosine in
    let xs = within_product m max_sine c.args.p.x c.args.sine near.x c.requires.sine in
    rw (returns-clause-value c) (record {
      x = mean_within m _ _ refl (within_sum (m * max_sine) (m * max_sine) _ _ xc ys).0;
      y = mean_within m _ _ refl (within_sum (m * max_sine) (m * max_sine) _ _ yc xs).1;
    })
