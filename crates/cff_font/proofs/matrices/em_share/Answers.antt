use Rattle.std.proofs.Common.{◌≡◌, ◌∙◌, neg_ℤ, pos, ◌+ℤ◌, ◌*ℤ◌, ◌/◌, FitsSigned, ap, to_z-of_z, rules, w64}
use Rattle.ass_num.specs.Floor.{floor_div, held}
use Rattle.cff_font.specs.Matrices.{max_share}
use Rattle.cff_font.proofs.matrices.em_share.Goals as goal
use mir.Syntax.{w128}

pub returns-clause-value : goal.returns-clause-value
returns-clause-value c =
    let number : c.from.result ≡ c.args.z = c.from.ensures ∙ to_z-of_z c.ranges.z in
    let half : c.from-2.result ≡ pos (c.args.em / 2) = search rules in
    let em : c.from-3.result ≡ pos c.args.em = search rules in
    let f1 : FitsSigned w128 c.from.result = search rules in
    let f2 : FitsSigned w128 c.from-2.result = search rules in
    let f3 : FitsSigned w128 c.from-3.result = search rules in
    let product : FitsSigned w128 (c.from.result *ℤ pos 65536) = search rules in
    let sum : FitsSigned w128 (c.from.result *ℤ pos 65536 +ℤ c.from-2.result) = search rules in
    let quotient : FitsSigned w128 c.div_floor-share.result = search rules in
    let share : FitsSigned w64 c.hold.result = search rules in
    let is : c.div_floor-share.result ≡ floor_div (c.from.result *ℤ pos 65536 +ℤ c.from-2.result) c.from-3.result = simp to_z-of_z at c.div_floor-share.ensures.value in
    to_z-of_z share ∙ c.hold.ensures.value ∙ ap (held (neg_ℤ (pos max_share)) (pos max_share)) (to_z-of_z quotient ∙ rw (number, half, em) at is)
