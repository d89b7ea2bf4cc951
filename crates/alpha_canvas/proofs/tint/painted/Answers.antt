use Rattle.std.proofs.Common.{◌≡◌, arith}
use Rattle.blend.specs.Images.{image_value}
use Rattle.alpha_canvas.proofs.TileLemmas.{under-uncovered}
use Rattle.alpha_canvas.proofs.tint.painted.Goals as goal

pub returns-then-covered-eq0-clause-value : goal.returns-then-covered-eq0-clause-value
returns-then-covered-eq0-clause-value g c =
    let none : c.args.covered ≡ 0 = omega (arith, c.if-covered-eq0.true) in
    under-uncovered c.args.layers (image_value g.M.AsMask.mask c.args.image.now) c.args.i c.args.j c.args.covered c.requires.covered none
