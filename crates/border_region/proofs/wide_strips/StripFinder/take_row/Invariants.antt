use Rattle.border_region.specs.Finders.{HasFound}
use Rattle.border_region.proofs.wide_strips.StripFinder.take_row.Given as goal

abbrev pub invariant-loop-n : goal.invariant-loop-n
invariant-loop-n l = HasFound l.region l.fn.self.ellipse.rx l.fn.self.ellipse.ry l.k l.n l.self
