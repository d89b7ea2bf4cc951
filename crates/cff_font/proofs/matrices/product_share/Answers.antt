use Rattle.std.proofs.Common.{◌≡◌, ◌∙◌, neg_ℤ, pos, ◌+ℤ◌, FitsSigned, ap, to_z-of_z, rules, w64}
use Rattle.ass_num.specs.Floor.{floor_div, held}
use Rattle.cff_font.specs.Matrices.{max_share}
use Rattle.cff_font.specs.Reals.{decimal_one}
use Rattle.cff_font.proofs.matrices.product_share.Goals as goal
use mir.Syntax.{w128}

pub returns-clause-value : goal.returns-clause-value
returns-clause-value c =
    let sum : FitsSigned w128 c.sum_of_products-sum.result = search rules in
    let half : FitsSigned w128 (c.sum_of_products-sum.result +ℤ pos 500000000000000) = search rules in
    let quotient : FitsSigned w128 c.div_floor.result = search rules in
    let share : FitsSigned w64 c.hold.result = search rules in
    let s = rw (to_z-of_z c.ranges.a, to_z-of_z c.ranges.b, to_z-of_z c.ranges.c, to_z-of_z c.ranges.d) at c.sum_of_products-sum.ensures.value in
    let is : c.div_floor.result ≡ floor_div (c.sum_of_products-sum.result +ℤ pos 500000000000000) (pos decimal_one) = simp to_z-of_z at c.div_floor.ensures.value in
    to_z-of_z share ∙ c.hold.ensures.value ∙ ap (held (neg_ℤ (pos max_share)) (pos max_share)) (to_z-of_z quotient ∙ is ∙ ap (λ z. floor_div (z +ℤ pos 500000000000000) (pos decimal_one)) s)
