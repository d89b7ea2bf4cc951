use Rattle.std.proofs.Common.{◌≡◌, ◌+◌, ◌*◌, ◌/◌, ◌^◌, ap, ◌∙◌, arith}
use Rattle.mask_blur.specs.Scales.{mean_factor}
use Rattle.mask_blur.proofs.MeanLemmas.{quotient_shifted, quotient_below}
use Rattle.mask_blur.proofs.means.Means.of.Goals as goal

pub overflow_cast-result-3 : goal.overflow_cast-result-3
overflow_cast-result-3 c =
    let s = c.args.self.now in
    let r = s.radius in
    let product : c.from.result * c.from-2.result ≡ c.args.sum * mean_factor r = ap (λ z. z * c.from-2.result) c.from.ensures ∙ ap (λ z. c.args.sum * z) (c.from-2.ensures ∙ s.exact) in
    let is : c.from.result * c.from-2.result / 65536 / 2 ^ s.shift ≡ c.args.sum / (2 * r + 1) =
    ap (λ z. z / 65536 / 2 ^ s.shift) product ∙ (ap (λ z. c.args.sum * mean_factor r / 65536 / 2 ^ z) s.shifts ∙ quotient_shifted r c.args.sum s.some s.small c.requires) in
    omega (arith, is, quotient_below r c.args.sum c.requires)

pub returns : goal.returns
returns c =
    let s = c.args.self.now in
    let r = s.radius in
    let product : c.from.result * c.from-2.result ≡ c.args.sum * mean_factor r = ap (λ z. z * c.from-2.result) c.from.ensures ∙ ap (λ z. c.args.sum * z) (c.from-2.ensures ∙ s.exact) in
    ap (λ z. z / 65536 / 2 ^ s.shift) product ∙ (ap (λ z. c.args.sum * mean_factor r / 65536 / 2 ^ z) s.shifts ∙ quotient_shifted r c.args.sum s.some s.small c.requires)
