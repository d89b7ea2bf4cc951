use Rattle.std.proofs.Common.{◌∙◌, ◌*◌, pos, neg_ℤ, ◌+ℤ◌, ◌*ℤ◌, ap, ap₂, FitsSigned, w32, w64, to_z-of_z, rules}
use Rattle.ass_num.specs.Floor.{floor_div, held}
use Rattle.draw_numbers.specs.Limits.{max_bound, one_milli}
use Rattle.draw_numbers.proofs.clips.clip_bound.Goals as goal

pub returns-clause-value : goal.returns-clause-value
returns-clause-value c =
    let ratio = c.args.ratio in
    let bound : FitsSigned w32 c.held_bound.result = search rules in
    let sum : FitsSigned w64 c.pixels_from.result = search rules in
    let length : FitsSigned w64 c.scaled-pixels.result = search rules in
    let pixels =
    to_z-of_z length ∙ c.scaled-pixels.ensures.value ∙ ap (λ z. floor_div (z *ℤ pos ratio.pixels) (pos (one_milli * ratio.units))) (to_z-of_z c.ranges.coordinate) in
    to_z-of_z bound ∙ c.held_bound.ensures.value
    ∙ ap (held (neg_ℤ (pos max_bound)) (pos max_bound)) (to_z-of_z sum ∙ c.pixels_from.ensures ∙ ap₂ ◌+ℤ◌ (to_z-of_z c.ranges.begin) pixels)
