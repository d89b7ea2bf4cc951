use Rattle.std.proofs.Common.{FitsSigned, to_z-of_z, rules, w64}
use Rattle.fixed_outline.proofs.StrokeRings.{strokes_bold, strokes_plain}
use Rattle.fixed_outline.proofs.strokes.add_stroke_rings.Goals as goal

pub returns-then-style-clause-added : goal.returns-then-style-clause-added
returns-then-style-clause-added c =
    let fs : FitsSigned w64 c.bold_shift-shift.result = search rules in
    let moved = rw (to_z-of_z fs, c.bold_shift-shift.ensures.value, to_z-of_z c.ranges.step) at c.in_ok-add_moved_strokes-2.ensures.added in
    strokes_bold c.args.style.now.matrix c.args.style.now.bold c.args.step c.args.contours.now c.args.rings.now c.add_moved_strokes.new.rings c.add_moved_strokes-then-style.new.rings c.if-style.true
    c.in_ok-add_moved_strokes.ensures.added moved

pub returns-then-style-clause-within : goal.returns-then-style-clause-within
returns-then-style-clause-within c outline = c.in_ok-add_moved_strokes-2.ensures.within (c.in_ok-add_moved_strokes.ensures.within outline)

pub returns-clause-added : goal.returns-clause-added
returns-clause-added c =
    strokes_plain c.args.style.now.matrix c.args.style.now.bold c.args.step c.args.contours.now c.args.rings.now c.add_moved_strokes.new.rings c.if-style.false c.in_ok-add_moved_strokes.ensures.added
