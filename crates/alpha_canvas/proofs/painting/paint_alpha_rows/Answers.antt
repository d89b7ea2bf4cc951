use Rattle.std.proofs.Common.{◌+◌, ◌*◌, ◌≤◌, map, arith}
use Rattle.std.proofs.Math.Nat.{mul-le-mul_right}
use Rattle.blend.specs.Images.{image_value}
use Rattle.alpha_canvas.proofs.RowLemmas.{rows-more}
use Rattle.alpha_canvas.proofs.painting.paint_alpha_rows.Goals as goal

pub slice_bounds-paint_row-end : goal.slice_bounds-paint_row-end
slice_bounds-paint_row-end g c =
    let fits : (c.loop-j.j + 1) * c.args.w ≤ c.args.h * c.args.w = mul-le-mul_right c.args.w (let next : c.loop-j.j + 1 ≤ c.args.h = omega arith in next) in
    let count = c.loop-j.invariant.count in
    omega (arith, count)

pub loop-j-preserved : goal.loop-j-preserved
loop-j-preserved g c =
    rows-more c.args.form (map (image_value g.M.AsMask.mask) c.args.images.now) c.args.w c.args.top c.loop-j.j c.args.h _ _ c.loop-j.bytes c.paint_row.new.row
    c.loop-j-test.true (omega arith) (omega arith) c.loop-j.invariant c.paint_row.ensures
