use Rattle.std.proofs.Common.{◌≡◌, ◌∙◌, ◌+ℤ◌, ◌*ℤ◌, ap, ap₂, FitsSigned, w32, to_z-of_z, rules, arith}
use Rattle.std.proofs.lemmas.Int.{ints}
use Rattle.sfnt_glyphs.proofs.Wide.{wide_sum, wide_sum_fits, weights_are}
use Rattle.sfnt_glyphs.specs.Glyphs.{nearest_unit}
use Rattle.sfnt_glyphs.proofs.points.placed_coordinate.Goals as goal
use mir.Syntax.{w128}

shift_is : (c : goal.After-from) → c.from.result ≡ c.args.shift
shift_is c = let fits : FitsSigned w32 c.args.shift = search rules in c.from.ensures ∙ to_z-of_z fits

pub overflow_add-result : goal.overflow_add-result
overflow_add-result c =
    let fits : FitsSigned w32 c.args.shift = search rules in
    let n = c.nearest_unit.ensures in
    wide_sum_fits c.nearest_unit.result c.from.result n.least n.most (rw (shift_is c) (omega (arith, ints, fits))) (rw (shift_is c) (omega (arith, ints, fits)))

pub returns : goal.returns
returns c =
    let x : FitsSigned w32 c.args.x = search rules in
    let y : FitsSigned w32 c.args.y = search rules in
    let a : FitsSigned w32 c.args.a = search rules in
    let weight : FitsSigned w32 c.args.c = search rules in
    let fits : FitsSigned w32 c.args.shift = search rules in
    let sum_fits : FitsSigned w128 c.weighted_sum.result = search rules in
    let n = c.nearest_unit.ensures in
    let whole : c.nearest_unit.result ≡ nearest_unit ((c.args.x *ℤ c.args.a) +ℤ (c.args.y *ℤ c.args.c)) =
    n.value ∙ ap nearest_unit (to_z-of_z sum_fits ∙ (c.weighted_sum.ensures.value ∙ weights_are c.args.x c.args.a c.args.y c.args.c x a y weight)) in
    wide_sum c.nearest_unit.result c.from.result n.least n.most (rw (shift_is c) (omega (arith, ints, fits))) (rw (shift_is c) (omega (arith, ints, fits)))
    ∙ ap₂ (λ p q. p +ℤ q) whole (shift_is c)
