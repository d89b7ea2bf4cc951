use Rattle.std.proofs.Common.{◌≡◌, ◌+◌, ◌*◌, ◌≤◌, length, get_or, ap, ◌∙◌, arith}
use Rattle.std.proofs.lemmas.List.Edits.{get_or-between}
use Rattle.std.proofs.lemmas.Nat.{mul-le}
use Rattle.mask_blur.proofs.PutLemmas.{length-put, length_part}
use Rattle.mask_blur.proofs.TileLemmas.{tile-more}
use Rattle.mask_blur.proofs.tiles.take_tile.Goals as goal

pub loop-i-preserved : goal.loop-i-preserved
loop-i-preserved c =
    let i = c.loop-i.i in
    let from = c.args.from.now in
    let at = c.args.start + i * c.args.w in
    let rows : i * c.args.w ≤ 15 * c.args.w = mul-le i c.args.w 15 c.args.w (omega arith) (omega arith) in
    let fits : at + 16 ≤ length from = omega (arith, rows, c.requires.room) in
    let row = c.copy_from_slice.new.self in
    let long : length row ≡ 16 = ap length c.copy_from_slice.ensures.after ∙ (length_part at (at + 16) from fits ∙ omega arith) in
    let count = c.loop-i.invariant.0 in (
      length-put (16 * i) _ c.loop-i.tile row (omega (arith, count)) (omega (arith, long)) ∙ count,
      tile-more from c.loop-i.tile row c.args.w c.args.start i _ count (omega arith) long
          (λ b less. ap (λ xs. get_or xs b 0) c.copy_from_slice.ensures.after ∙ get_or-between from at (at + 16) b 0 (omega arith))
          c.loop-i.invariant.1,
    )
