use Rattle.std.proofs.Common.{map, get_or, ap, ◌∙◌, arith}
use Rattle.blend.specs.Images.{image_value}
use Rattle.alpha_canvas.proofs.RowLemmas.{row-clear, row-painted}
use Rattle.alpha_canvas.proofs.TileLemmas.{zeros}
use Rattle.alpha_canvas.proofs.painting.paint_row.Goals as goal

pub returns-then-all : goal.returns-then-all
returns-then-all g c =
    let all = c.columns_of_all-all in
    let filled = c.fill.ensures.after (λ y e. e) in
    row-painted c.args.form (map (image_value g.M.AsMask.mask) c.args.images.now) c.args.w all.result.left all.result.right c.args.j c.fill.new.self (omega (arith, c.fill.auto.self, c.requires.bytes))
    (λ k. ap (λ s. get_or s k 0) filled ∙ zeros _ k) all.ensures.clear _ _ c.paint_columns.new.bytes (omega (arith, c.if-all.true)) all.ensures.bound (omega arith) (omega arith) c.paint_columns.ensures

pub returns-else-all : goal.returns-else-all
returns-else-all g c =
    let all = c.columns_of_all-all in
    let filled = c.fill.ensures.after (λ y e. e) in
    row-clear c.args.form (map (image_value g.M.AsMask.mask) c.args.images.now) c.args.w all.result.left all.result.right c.args.j c.fill.new.self (omega (arith, c.fill.auto.self, c.requires.bytes))
    (λ k. ap (λ s. get_or s k 0) filled ∙ zeros _ k) all.ensures.clear (omega (arith, c.if-all.false))
