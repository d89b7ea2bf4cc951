use Rattle.std.proofs.Common.{◌≡◌, ◌+◌, ◌*◌, ◌/◌, ◌%◌, get_or, length-set, ap, ◌∙◌, arith}
use Rattle.mask_blur.proofs.TileLemmas.{pair-step}
use Rattle.mask_blur.proofs.tiles.interleave.Goals as goal

pub loop-k-preserved : goal.loop-k-preserved
loop-k-preserved c =
    let k = c.loop-k.k in
    let from = c.args.from.now in
    let even : k ≡ 2 * k / 2 + 128 * (2 * k % 2) = omega arith in
    let odd : k + 128 ≡ (2 * k + 1) / 2 + 128 * ((2 * k + 1) % 2) = omega arith in (
      length-set _ _ _ ∙ (length-set _ _ _ ∙ c.loop-k.invariant.0),
      pair-step (λ j. get_or from (j / 2 + 128 * (j % 2)) 0) c.loop-k.to k (get_or from k 0) (get_or from (k + 128) 0) (omega (arith, c.loop-k.invariant.0))
          (ap (λ n. get_or from n 0) even) (ap (λ n. get_or from n 0) odd) c.loop-k.invariant.1,
    )
