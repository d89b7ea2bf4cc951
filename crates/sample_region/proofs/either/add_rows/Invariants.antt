use Rattle.region_rows.specs.Grown.{IsGrown}
use Rattle.sample_region.specs.Unions.{in_either}
use Rattle.region_rows.proofs.RowLoops.{IsUpTo}
use Rattle.sample_region.proofs.either.add_rows.Given as goal

abbrev pub invariant-loop-j : goal.invariant-loop-j
invariant-loop-j l = IsUpTo (λ j. IsGrown (in_either l.a l.b) j l.growth) l.fn.first l.fn.end l.j
