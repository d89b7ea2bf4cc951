use Rattle.std.proofs.Common.{◌≡◌, pos, to_z, w64, arith}
use Rattle.std.proofs.lemmas.Int.{to_z_pos}
use Rattle.still_images.proofs.stills.draw.Goals as goal

pub returns-then-is_shown-clause-drawn : goal.returns-then-is_shown-clause-drawn
returns-then-is_shown-clause-drawn c =
    let h = c.is_shown.ensures c.if-is_shown.true in
    let at : to_z w64 c.args.t ≡ pos c.args.t = to_z_pos w64 c.args.t (omega (arith, c.requires.instant)) in
    let draws = rw (c.requires.frame, c.requires.lines, at) at c.in_ok-plan.ensures.draws in
    (h.0, h.1, rw h.2 draws)

pub returns-clause-drawn : goal.returns-clause-drawn
returns-clause-drawn c =
    let at : to_z w64 c.args.t ≡ pos c.args.t = to_z_pos w64 c.args.t (omega (arith, c.requires.instant)) in
    let draws = rw (c.requires.frame, c.requires.lines, at) at c.in_ok-plan.ensures.draws in
    (draws, rw c.requires.same at c.in_ok-pixels.ensures.pixels, c.in_ok-pixels.ensures.count)
