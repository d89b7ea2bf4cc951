use Rattle.border_region.proofs.EllipseLemmas.{HasWidths}
use Rattle.border_region.proofs.ellipse.ellipse_of.Given as goal

abbrev pub invariant-loop-distance : goal.invariant-loop-distance
invariant-loop-distance l = HasWidths l.rx l.ry l.distance l.half_widths.items
