use Rattle.std.proofs.Common.{◌≡◌, ◌∙◌, length, length-set, refl, arith}
use Rattle.blend.specs.Blocks.{channel}
use Rattle.blend.proofs.BlockLemmas.{pixel-step}
use Rattle.blend.proofs.span.solid.Goals as goal

pub loop-i-preserved : goal.loop-i-preserved
loop-i-preserved c =
    let count : length c.loop-i.pixels ≡ 48 = c.loop-i.invariant.0 in (
      length-set _ _ _ ∙ (length-set _ _ _ ∙ (length-set _ _ _ ∙ count)),
      pixel-step (λ _ k. channel c.args.colour k) _ c.loop-i.i _ _ _ (omega arith) refl refl refl c.loop-i.invariant.1,
    )
