use Rattle.std.proofs.Common.{◌+ℤ◌, ◌&&◌, pos, nat_le, nat_lt, arith}
use Rattle.std.proofs.lemmas.Int.{ints}
use Rattle.blend.specs.Areas.{placed_of}
use Rattle.alpha_canvas.proofs.TileLemmas.{columns-of}
use Rattle.alpha_canvas.proofs.columns.columns_of_box.Goals as goal

pub returns-clause-both : goal.returns-clause-both
returns-clause-both c = λ i.
    let p = placed_of c.args.placed in
    columns-of _ (nat_le c.args.left i && nat_lt i c.args.right) (p.0.x +ℤ p.1) (p.0.x +ℤ p.1 +ℤ pos p.0.w) _ _ (pos i) (c.columns_between.ensures.both i) (omega (arith, ints)) (omega (arith, ints))
