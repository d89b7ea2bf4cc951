use Rattle.std.proofs.Common.{arith}
use Rattle.border_region.proofs.EllipseLemmas.{half_width_is}
use Rattle.border_region.proofs.ellipse.half_width.Goals as goal

pub returns : goal.returns
returns c =
    let a = c.from-a.ensures in
    let b = c.from-b.ensures in
    let d = c.from-d.ensures in
    half_width_is c.args.rx c.args.ry c.args.distance c.isqrt.result (omega (arith, c.if-ry-eq0.false)) c.requires.within (rw (a, b, d) at c.isqrt.ensures.square_le) (rw (a, b, d) at c.isqrt.ensures.next_square_gt)
