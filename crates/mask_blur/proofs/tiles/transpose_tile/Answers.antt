use Rattle.std.proofs.Common.{◌+◌, ◌*◌, ◌≤◌, get_or, ◌∙◌, arith}
use Rattle.std.proofs.lemmas.Nat.{mul-le}
use Rattle.mask_blur.proofs.TileLemmas.{four_times, tile-start}
use Rattle.mask_blur.proofs.tiles.transpose_tile.Goals as goal

pub returns : goal.returns
returns c = λ u v v_less known.
    let from = c.args.from.now in
    let w = c.args.w in
    c.put_tile.ensures (λ u v. get_or from (v * w + u) 0)
    (λ a b a_less b_less.
    four_times c.take_tile.new.tile c.interleave.new.to c.interleave-2.new.to c.interleave-3.new.to c.interleave-4.new.to
    c.interleave.ensures c.interleave-2.ensures c.interleave-3.ensures c.interleave-4.ensures a b a_less b_less
    ∙ (c.take_tile.ensures (16 * b + a) (omega arith) ∙ tile-start from w c.args.i c.args.j a b a_less))
    u v v_less known

pub take_tile-requires : goal.take_tile-requires
take_tile-requires c =
    let w = c.args.w in
    let rows : (c.args.j + 16) * w ≤ c.args.h * w = mul-le (c.args.j + 16) w c.args.h w c.requires.rows (omega arith) in
    omega (arith, rows, c.requires.columns, c.requires.from)
