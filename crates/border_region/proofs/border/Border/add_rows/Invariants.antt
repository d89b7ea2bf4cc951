use Rattle.region_rows.proofs.RowLoops.{IsUpTo}
use Rattle.border_region.specs.Borders.{HasWidened}
use Rattle.border_region.proofs.border.Border.add_rows.Given as goal

abbrev pub invariant-loop-j : goal.invariant-loop-j
invariant-loop-j l = IsUpTo (λ j. HasWidened l.region l.fn.self.ellipse.rx l.fn.self.ellipse.ry j l.self) l.fn.first l.fn.end l.j
