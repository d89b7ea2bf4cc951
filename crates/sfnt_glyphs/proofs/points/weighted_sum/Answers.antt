use Rattle.std.proofs.Common.{◌≡◌, ◌∙◌, ◌+ℤ◌, FitsSigned, w32, to_z, of_z, rules, arith}
use Rattle.std.proofs.lemmas.Int.{ints}
use Rattle.sfnt_glyphs.proofs.Wide.{wide_sum, weights_are}
use Rattle.sfnt_glyphs.proofs.points.weighted_sum.Goals as goal
use mir.Syntax.{w128}

sum_is : (c : goal.After-product-2) → to_z w128 (of_z w128 (to_z w128 (of_z w128 c.product.result) +ℤ to_z w128 (of_z w128 c.product-2.result))) ≡ c.product.result +ℤ c.product-2.result
sum_is c =
    let a = c.product.ensures in
    let b = c.product-2.ensures in
    wide_sum c.product.result c.product-2.result (omega (arith, ints, a.least)) (omega (arith, ints, a.most)) (omega (arith, ints, b.least)) (omega (arith, ints, b.most))

pub returns-clause-value : goal.returns-clause-value
returns-clause-value c =
    let x : FitsSigned w32 c.args.x = search rules in
    let a : FitsSigned w32 c.args.a = search rules in
    let y : FitsSigned w32 c.args.y = search rules in
    let weight : FitsSigned w32 c.args.c = search rules in
    sum_is c ∙ (rw (c.product.ensures.value, c.product-2.ensures.value) (weights_are c.args.x c.args.a c.args.y c.args.c x a y weight))

pub returns-clause-least : goal.returns-clause-least
returns-clause-least c = rw (sum_is c) (omega (arith, ints, c.product.ensures.least, c.product-2.ensures.least))

pub returns-clause-most : goal.returns-clause-most
returns-clause-most c = rw (sum_is c) (omega (arith, ints, c.product.ensures.most, c.product-2.ensures.most))
