use Rattle.std.proofs.Common.{arith}
use Rattle.border_region.proofs.EllipseLemmas.{falling, widths_none, widths_more, widths_all}
use Rattle.border_region.proofs.ellipse.ellipse_of.Goals as goal

pub loop-distance-init : goal.loop-distance-init
loop-distance-init c = rw c.new-half_widths.ensures.items (widths_none c.args.rx c.args.ry)

pub loop-distance-preserved : goal.loop-distance-preserved
loop-distance-preserved c = rw c.in_ok-push.ensures.items (widths_more c.args.rx c.args.ry c.loop-distance.distance c.half_width.result c.loop-distance.half_widths.items c.loop-distance.invariant c.half_width.ensures)

pub returns-clause-widths : goal.returns-clause-widths
returns-clause-widths c = widths_all c.args.rx c.args.ry c.loop-distance.distance c.loop-distance.half_widths.items (omega arith) c.loop-distance.invariant

pub returns-clause-falling : goal.returns-clause-falling
returns-clause-falling c = falling c.args.rx c.args.ry c.loop-distance.half_widths.items c.requires.across c.requires.down (returns-clause-widths c)
