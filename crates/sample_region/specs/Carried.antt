-- Inner: where an edge crosses a row, carried from row to row.
use Rattle.std.specs.Prelude.{◌≡◌, ℤ, pos, ◌+ℤ◌, ◌-ℤ◌, ◌*ℤ◌, ◌≤ℤ◌, ◌<ℤ◌, List, map, All}
use Rattle.ass_num.specs.declared.geometry.Point.{Point}
use Rattle.sample_region.specs.Edges.{IsCrossed}
use Rattle.sample_region.specs.declared.carried.Division.{Division}
use Rattle.sample_region.specs.declared.carried.LiveEdge.{LiveEdge}
use Rattle.sample_region.specs.declared.edges.SweepEdge.{SweepEdge}

-- `cut_of` is its quotient by four times the height of the edge
abbrev pub cut_number : Point → Point → ℤ → ℤ
cut_number a b y = (b.x -ℤ a.x) *ℤ (y -ℤ a.y) +ℤ (a.x +ℤ pos 2) *ℤ (b.y -ℤ a.y) -ℤ pos 1

-- the quotient is rounded down, and what is over is below the divisor
pub record IsDivision (number divisor : ℤ) (division : Division) : Type 0 where
  pub sum : division.whole *ℤ divisor +ℤ division.over ≡ number
  pub low : pos 0 ≤ℤ division.over
  pub high : division.over <ℤ divisor

-- quotient and rest of what makes up the crossing with the row at y, and of what it grows by to the next row
pub record IsCarriedTo (y : ℤ) (live : LiveEdge) : Type 0 where
  pub crossed : IsCrossed y live.edge
  pub divisor : live.divisor ≡ pos 4 *ℤ (live.edge.lower.y -ℤ live.edge.upper.y)
  pub sum : live.at *ℤ live.divisor +ℤ live.over ≡ cut_number live.edge.upper live.edge.lower y
  pub low : pos 0 ≤ℤ live.over
  pub high : live.over <ℤ live.divisor
  pub step_sum : live.step *ℤ live.divisor +ℤ live.step_over ≡ pos 4 *ℤ (live.edge.lower.x -ℤ live.edge.upper.x)
  pub step_low : pos 0 ≤ℤ live.step_over
  pub step_high : live.step_over <ℤ live.divisor

-- the edges themselves
abbrev pub live_edges : List LiveEdge → List SweepEdge
live_edges active = map (λ (live : LiveEdge). live.edge) active

-- all stand where they cross the row at y
abbrev pub AreCarriedTo : ℤ → List LiveEdge → Type 0
AreCarriedTo y active = All (IsCarriedTo y) active

-- and cross the next row too
abbrev pub GoOnFrom : ℤ → LiveEdge → Type 0
GoOnFrom y live = IsCarriedTo y live × IsCrossed (y +ℤ pos 4) live.edge
