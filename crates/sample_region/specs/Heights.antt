-- Inner: points between two heights.
use Rattle.std.specs.Prelude.{ℤ, ◌≤ℤ◌}
use Rattle.ass_num.specs.declared.geometry.Point.{Point}

abbrev pub IsHeightBetween : ℤ → ℤ → Point → Type 0
IsHeightBetween low high p = (low ≤ℤ p.y) × (p.y ≤ℤ high)
