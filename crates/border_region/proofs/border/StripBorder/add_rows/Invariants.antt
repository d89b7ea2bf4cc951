use Rattle.region_rows.proofs.RowLoops.{IsUpTo}
use Rattle.border_region.specs.Borders.{HasUnited}
use Rattle.border_region.proofs.border.StripBorder.add_rows.Given as goal

abbrev pub invariant-loop-j : goal.invariant-loop-j
invariant-loop-j l = IsUpTo (λ j. HasUnited l.wide j l.self) l.fn.first l.fn.end l.j
