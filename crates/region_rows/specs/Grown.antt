-- Public: a region that grows row by row, as its struct has it.
use Rattle.std.specs.Prelude.{ℤ, pos, ◌+ℤ◌, ◌≤ℤ◌, Bool, List}
use Rattle.ass_num.specs.declared.region.Run.{Run}
use Rattle.region_rows.specs.Limits.{max_top}
use Rattle.region_rows.specs.Growths.{HasRunRows, IsFormed, IsRowHolding}
use Rattle.region_rows.specs.declared.growth.Growth.{Growth}

-- its rows hold the wanted samples before row j
abbrev pub IsGrown : (ℤ → ℤ → Bool) → ℤ → Growth → Type 0
IsGrown wanted j g = HasRunRows wanted j g.top g.rows g.filled

-- its first row may still move down
abbrev pub HasRoom : Growth → Type 0
HasRoom g = g.top ≤ℤ pos max_top

-- its rows up to the last that isn't empty are those of a region
abbrev pub IsWholeGrowth : Growth → Type 0
IsWholeGrowth g = IsFormed g.rows g.filled

-- one more row
abbrev pub AddsRuns : List Run → Growth → Growth → Type 0
AddsRuns runs old new = (wanted : ℤ → ℤ → Bool) (j : ℤ) → IsGrown wanted j old → IsRowHolding (λ i. wanted i j) runs → IsGrown wanted (j +ℤ pos 1) new
