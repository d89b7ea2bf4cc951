use Rattle.std.proofs.Common.{ℕ, slice_index, arith}
use Rattle.blend.specs.Blending.{Tint, tint_of}
use Rattle.blend.proofs.TintedLemmas.{tinted-start, tinted-end, below-step, tint_of-weight}
use Rattle.blend.proofs.span.tint_each.Goals as goal

pub loop-i-init : goal.loop-i-init
loop-i-init c = tinted-start (λ k. tint_of c.args.colour (slice_index c.args.cover.now k)) _

pub loop-i-preserved : goal.loop-i-preserved
loop-i-preserved c =
    let i = c.loop-i.i in
    let tint : ℕ → Tint = λ k. tint_of c.args.colour (slice_index c.args.cover.now k) in
    below-step tint (record { colour = c.args.colour; weight = c.weight.result }) i _ _ c.args.pixels.now _ _
    (omega arith) (omega arith) c.loop-i.invariant (omega arith) c.tint_pixel.ensures
    (tint_of-weight c.args.colour _ _ c.weight.ensures)

pub returns : goal.returns
returns c =
    let tint : ℕ → Tint = λ k. tint_of c.args.colour (slice_index c.args.cover.now k) in
    tinted-end tint c.loop-i.i _ _ (omega arith) c.loop-i.invariant
