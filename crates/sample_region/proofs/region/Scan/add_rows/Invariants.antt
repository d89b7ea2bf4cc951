use Rattle.sample_region.specs.Scans.{HasScanned}
use Rattle.region_rows.proofs.RowLoops.{IsUpTo}
use Rattle.sample_region.proofs.region.Scan.add_rows.Given as goal

abbrev pub invariant-loop-j : goal.invariant-loop-j
invariant-loop-j l = IsUpTo (λ j. HasScanned l.edges j l.self) l.fn.first l.fn.end l.j
