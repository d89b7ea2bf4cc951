use Rattle.std.proofs.Common.{◌≡◌, ◌∙◌, pos, ◌+ℤ◌, ◌≤ℤ◌, ◌<ℤ◌, ◌*ℤ◌, FitsSigned, to_z-of_z, rules, arith}
use Rattle.std.proofs.lemmas.Int.{ints}
use Rattle.ass_num.specs.Floor.{floor_div}
use Rattle.cff_font.specs.Strokes.{glyph_coordinate}
use Rattle.cff_font.proofs.transforms.transformed.Goals as goal
use mir.Syntax.{w128}

pub overflow_add-div_floor : goal.overflow_add-div_floor
overflow_add-div_floor c =
    let sum : FitsSigned w128 c.sum_of_products-sum.result = search rules in
    let half : FitsSigned w128 (c.sum_of_products-sum.result +ℤ pos 32768) = search rules in
    let quotient : FitsSigned w128 c.div_floor.result = search rules in
    let fs : FitsSigned w128 c.from.result = search rules in
    let shift : c.from.result ≡ c.args.shift = c.from.ensures ∙ to_z-of_z c.ranges.shift in
    let below : (c.div_floor.result *ℤ pos 65536) ≤ℤ (c.sum_of_products-sum.result +ℤ pos 32768) = simp to_z-of_z at c.div_floor.ensures.below in
    let above : (c.sum_of_products-sum.result +ℤ pos 32768) <ℤ ((c.div_floor.result *ℤ pos 65536) +ℤ pos 65536) = simp to_z-of_z at c.div_floor.ensures.above in
    rw (to_z-of_z quotient, to_z-of_z fs) (omega (arith, ints, below, above, shift, c.requires.shift.0, c.requires.shift.1, c.sum_of_products-sum.ensures.within.0, c.sum_of_products-sum.ensures.within.1))

pub returns : goal.returns
returns c =
    let sum : FitsSigned w128 c.sum_of_products-sum.result = search rules in
    let half : FitsSigned w128 (c.sum_of_products-sum.result +ℤ pos 32768) = search rules in
    let quotient : FitsSigned w128 c.div_floor.result = search rules in
    let fs : FitsSigned w128 c.from.result = search rules in
    let whole : FitsSigned w128 (c.div_floor.result +ℤ c.from.result) = rw (to_z-of_z quotient, to_z-of_z fs) at (overflow_add-div_floor c.before) in
    let shift : c.from.result ≡ c.args.shift = c.from.ensures ∙ to_z-of_z c.ranges.shift in
    let s = rw (to_z-of_z c.ranges.a, to_z-of_z c.ranges.x, to_z-of_z c.ranges.b, to_z-of_z c.ranges.y) at c.sum_of_products-sum.ensures.value in
    let is : c.div_floor.result ≡ floor_div (c.sum_of_products-sum.result +ℤ pos 32768) (pos 65536) = simp to_z-of_z at c.div_floor.ensures.value in
    let at : c.glyph_coordinate.result ≡ glyph_coordinate (c.div_floor.result +ℤ c.from.result) = simp to_z-of_z at c.glyph_coordinate.ensures.value in
    rw (is, shift, s) at at
