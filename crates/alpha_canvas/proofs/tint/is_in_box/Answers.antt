use Rattle.std.proofs.Common.{◌+ℤ◌, pos, arith}
use Rattle.std.proofs.lemmas.Int.{ints}
use Rattle.blend.specs.Areas.{placed_of}
use Rattle.alpha_canvas.proofs.TintLemmas.{in-rect-of}
use Rattle.alpha_canvas.proofs.tint.is_in_box.Goals as goal

pub returns : goal.returns
returns c =
    let p = placed_of c.args.placed in
    in-rect-of c.is_in_rect.result (p.0.x +ℤ p.1) (p.0.y +ℤ p.2) (p.0.x +ℤ p.1 +ℤ pos p.0.w) (p.0.y +ℤ p.2 +ℤ pos p.0.h) _ _ _ _ (pos c.args.i) (pos c.args.j)
    c.is_in_rect.ensures (omega (arith, ints)) (omega (arith, ints)) (omega (arith, ints)) (omega (arith, ints))
