-- Inner: how far an ellipse reaches in each of its rows.
use Rattle.std.specs.Prelude.{◌≡◌, ℕ, ◌+◌, ◌*◌, ◌<◌, ◌≤◌, ◌↔◌, List, length, slice_index}
use Rattle.border_region.specs.Limits.{max_radius}
use Rattle.region_rows.specs.Widened.{square}

-- so many rows from its middle, the ellipse reaches just up to w samples to each side
abbrev pub IsHalfWidth : ℕ → ℕ → ℕ → ℕ → Type 0
IsHalfWidth rx ry distance w = (a : ℕ) → (a ≤ w) ↔ ((a ≤ rx) × (square a * square ry + square distance * square rx ≤ square rx * square ry))

-- the half widths in the middle row and in the ry rows below it
pub record AreHalfWidths (rx ry : ℕ) (widths : List ℕ) : Type 0 where
  pub count : length widths ≡ ry + 1
  pub each : (d : ℕ) → d ≤ ry → IsHalfWidth rx ry d (slice_index widths d)

-- half widths that don't grow, few and small enough to reckon with
pub record AreFalling (widths : List ℕ) : Type 0 where
  pub some : 0 < length widths
  pub few : length widths ≤ max_radius + 1
  pub small : (d : ℕ) → d < length widths → slice_index widths d ≤ max_radius
  pub falls : (d : ℕ) → d + 1 < length widths → slice_index widths (d + 1) ≤ slice_index widths d
