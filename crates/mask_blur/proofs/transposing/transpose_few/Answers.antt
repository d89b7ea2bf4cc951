use Rattle.std.proofs.Common.{◌≡◌, ◌+◌, ◌*◌, ◌≤◌, length, get_or, ◌∙◌, arith}
use Rattle.std.proofs.lemmas.Nat.{mul-le}
use Rattle.mask_blur.proofs.PutLemmas.{length_part}
use Rattle.mask_blur.proofs.TileLemmas.{row-put}
use Rattle.mask_blur.proofs.transposing.transpose_few.Goals as goal

pub loop-u-preserved : goal.loop-u-preserved
loop-u-preserved c =
    let u = c.loop-u.u in
    let h = c.args.h in
    let rows : (u + 1) * h ≤ c.args.w * h = mul-le (u + 1) h c.args.w h (omega arith) (omega arith) in
    let fits : u * h + h ≤ length c.loop-u.to = omega (arith, rows, c.requires.to) in
    let long : length c.take_column.new.to ≡ h = c.take_column.auto.to ∙ (length_part (u * h) (u * h + h) c.loop-u.to fits ∙ omega arith) in
    row-put (λ p v. get_or c.args.from.now (v * c.args.w + p) 0) h u _ c.loop-u.to c.take_column.new.to long fits
    (λ v less. c.take_column.ensures v (omega (arith, less, long)))
    c.loop-u.invariant
