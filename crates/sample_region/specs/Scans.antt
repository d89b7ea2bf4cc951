-- Inner: a scan over the rows: those before row j are there, and the sweep is ready for it.
use Rattle.std.specs.Prelude.{ℤ, pos, ◌-ℤ◌, ◌≤ℤ◌, List}
use Rattle.ass_num.specs.Winding.{place}
use Rattle.sample_region.specs.Carried.{AreCarriedTo, live_edges}
use Rattle.sample_region.specs.Crossings.{is_inside}
use Rattle.sample_region.specs.Edges.{IsSteady, IsSwept}
use Rattle.region_rows.specs.Grown.{IsGrown}
use Rattle.region_rows.specs.Growths.{IsRowHolding}
use Rattle.sample_region.specs.declared.edges.SweepEdge.{SweepEdge}
use Rattle.sample_region.specs.declared.region.Scan.{Scan}

-- no edge is lost that reaches row j or a later one
abbrev pub HasReached : List SweepEdge → ℤ → Scan → Type 0
HasReached edges j scan = IsSwept (place j) edges scan.sweep.begun (live_edges scan.sweep.active.items)

-- the edges that have begun stand where they cross row j
abbrev pub HasCarried : ℤ → Scan → Type 0
HasCarried j scan = AreCarriedTo (place j) scan.sweep.active.items

-- the runs that were found last are those of row j
abbrev pub HoldsRow : List SweepEdge → ℤ → Scan → Type 0
HoldsRow edges j scan = IsRowHolding (λ i. is_inside edges i j) scan.walk.runs.items

-- and those of each row from j on that is as the last one
abbrev pub HasSteadyRows : List SweepEdge → ℤ → Scan → Type 0
HasSteadyRows edges j scan = (k : ℤ) → j ≤ℤ k → IsSteady (place k) edges scan.sweep.begun (live_edges scan.sweep.active.items) → HoldsRow edges k scan

pub record HasScanned (edges : List SweepEdge) (j : ℤ) (scan : Scan) : Type 0 where
  pub reached : HasReached edges j scan
  pub steady : HasSteadyRows edges j scan
  pub carried : HasCarried (j -ℤ pos 1) scan
  pub grown : IsGrown (is_inside edges) j scan.growth
