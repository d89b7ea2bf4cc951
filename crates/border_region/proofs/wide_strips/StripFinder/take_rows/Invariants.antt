use Rattle.border_region.specs.Finders.{HasFound}
use Rattle.border_region.proofs.wide_strips.StripFinder.take_rows.Given as goal

abbrev pub invariant-loop-k : goal.invariant-loop-k
invariant-loop-k l = HasFound l.region l.fn.self.ellipse.rx l.fn.self.ellipse.ry l.k 0 l.self
