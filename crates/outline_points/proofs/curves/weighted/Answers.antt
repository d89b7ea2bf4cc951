use Rattle.std.proofs.Common.{◌≡◌, ◌*ℤ◌, ◌∙◌, pos, refl, FitsSigned, to_z-of_z, rules, arith}
use Rattle.std.proofs.lemmas.Int.{ints}
use Rattle.outline_points.proofs.Bounds.{weighted_product}
use Rattle.outline_points.proofs.curves.weighted.Goals as goal
use mir.Syntax.{w128}

pub sum_of_four-requires-clause-a : goal.sum_of_four-requires-clause-a
sum_of_four-requires-clause-a c =
    let f : FitsSigned w128 c.product-a.result = search rules in
    rw (to_z-of_z f) (weighted_product c.args.a c.from.result c.product-a.result c.args.w.a c.product-a.ensures.value (omega (arith, ints, c.from.ensures)) c.requires.weights.a_most c.requires.a).1

pub sum_of_four-requires-clause-b : goal.sum_of_four-requires-clause-b
sum_of_four-requires-clause-b c =
    let f : FitsSigned w128 c.product-b.result = search rules in
    rw (to_z-of_z f) (weighted_product c.args.b c.from-2.result c.product-b.result c.args.w.b c.product-b.ensures.value (omega (arith, ints, c.from-2.ensures)) c.requires.weights.b_most c.requires.b).1

pub sum_of_four-requires-clause-c : goal.sum_of_four-requires-clause-c
sum_of_four-requires-clause-c c =
    let f : FitsSigned w128 c.product-c.result = search rules in
    rw (to_z-of_z f) (weighted_product c.args.c c.from-3.result c.product-c.result c.args.w.c c.product-c.ensures.value (omega (arith, ints, c.from-3.ensures)) c.requires.weights.c_most c.requires.c).1

pub sum_of_four-requires-clause-d : goal.sum_of_four-requires-clause-d
sum_of_four-requires-clause-d c =
    let f : FitsSigned w128 c.product-d.result = search rules in
    rw (to_z-of_z f) (weighted_product c.args.d c.from-4.result c.product-d.result c.args.w.d c.product-d.ensures.value (omega (arith, ints, c.from-4.ensures)) c.requires.weights.d_most c.requires.d).1

pub returns-clause-value : goal.returns-clause-value
returns-clause-value c =
    let a : c.product-a.result ≡ c.args.a *ℤ pos c.args.w.a = (weighted_product c.args.a c.from.result c.product-a.result c.args.w.a c.product-a.ensures.value (omega (arith, ints, c.from.ensures)) c.requires.weights.a_most c.requires.a).0 in
    let b : c.product-b.result ≡ c.args.b *ℤ pos c.args.w.b = (weighted_product c.args.b c.from-2.result c.product-b.result c.args.w.b c.product-b.ensures.value (omega (arith, ints, c.from-2.ensures)) c.requires.weights.b_most c.requires.b).0 in
    let d : c.product-c.result ≡ c.args.c *ℤ pos c.args.w.c = (weighted_product c.args.c c.from-3.result c.product-c.result c.args.w.c c.product-c.ensures.value (omega (arith, ints, c.from-3.ensures)) c.requires.weights.c_most c.requires.c).0 in
    let e : c.product-d.result ≡ c.args.d *ℤ pos c.args.w.d = (weighted_product c.args.d c.from-4.result c.product-d.result c.args.w.d c.product-d.ensures.value (omega (arith, ints, c.from-4.ensures)) c.requires.weights.d_most c.requires.d).0 in
    let fa : FitsSigned w128 c.product-a.result = search rules in
    let fb : FitsSigned w128 c.product-b.result = search rules in
    let fd : FitsSigned w128 c.product-c.result = search rules in
    let fe : FitsSigned w128 c.product-d.result = search rules in
    let fr : FitsSigned w128 c.sum_of_four.result = search rules in
    rw (to_z-of_z fr) (c.sum_of_four.ensures.value ∙ rw (to_z-of_z fa, to_z-of_z fb, to_z-of_z fd, to_z-of_z fe, a, b, d, e) refl)
