use Rattle.std.proofs.Common.{◌<◌, arith}
use Rattle.mask_cover.proofs.RowSums.{cells_more, part_is}
use Rattle.mask_cover.proofs.sum.add_rows.Goals as goal

pub loop-j-preserved : goal.loop-j-preserved
loop-j-preserved c =
    let m = c.args.mask.now in
    let below : c.loop-j.j < m.h = omega (arith, c.h-j-end.ensures) in
    let part = part_is m c.bytes-bytes.result.now c.w-w.result c.loop-j.j c.bytes-bytes.ensures.bytes c.w-w.ensures c.bytes-bytes.ensures.canonical below in
    cells_more m c.args.width c.args.column c.args.row c.loop-j.j c.args.sums.now c.loop-j.sums c.add_row.new.sums _ c.requires.columns below part.0 part.1 c.add_row.ensures c.loop-j.invariant
