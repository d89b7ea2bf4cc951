use Rattle.std.proofs.Common.{◌+ℤ◌, pos, arith}
use Rattle.std.proofs.lemmas.Int.{ints}
use Rattle.blend.specs.Areas.{placed_of}
use Rattle.alpha_canvas.proofs.TileLemmas.{between-of}
use Rattle.alpha_canvas.proofs.columns.has_row.Goals as goal

pub returns : goal.returns
returns c =
    let p = placed_of c.args.placed in
    between-of c.is_between.result (p.0.y +ℤ p.2) (p.0.y +ℤ p.2 +ℤ pos p.0.h) _ _ (pos c.args.j) c.is_between.ensures (omega (arith, ints)) (omega (arith, ints))
