-- Inner: where edges cross a row of samples, and how many crossings lie before and after a sample.
use Rattle.std.specs.Prelude.{ℕ, ℤ, pos, ◌+ℤ◌, ◌-ℤ◌, ◌*ℤ◌, Bool, not, ◌&&◌, nat_eq, List, map, filter, count_by, int_lt, int_le, ◌≡◌, All}
use Rattle.std.specs.Int.{int_div_euclid}
use Rattle.ass_num.specs.Winding.{place, spans}
use Rattle.ass_num.specs.declared.geometry.Point.{Point}
use Rattle.sample_region.specs.declared.edges.SweepEdge.{SweepEdge}
use Rattle.sample_region.specs.declared.sweep.Crossing.{Crossing}
use Rattle.sample_region.specs.Edges.{IsEdge, IsOrdered, IsAscendingBy}

-- the first sample of the row at y that the edge from a down to b doesn't pass on its right: a quotient rounded up
abbrev pub cut_of : Point → Point → ℤ → ℤ
cut_of a b y = int_div_euclid ((b.x -ℤ a.x) *ℤ (y -ℤ a.y) +ℤ (a.x +ℤ pos 2) *ℤ (b.y -ℤ a.y) -ℤ pos 1) (pos 4 *ℤ (b.y -ℤ a.y))

abbrev pub crossing_at : ℤ → SweepEdge → Crossing
crossing_at y e = record { at = cut_of e.upper e.lower y; down = e.down }

-- the crossings of the row at y
abbrev pub row_crossings : ℤ → List SweepEdge → List Crossing
row_crossings y edges = map (crossing_at y) (filter (λ e. spans e.upper e.lower y) edges)

abbrev pub IsAscending : List Crossing → Type 0
IsAscending cs = IsAscendingBy (λ c. c.at) cs

-- how many crossings go down, or up: in all, at or before sample i, and after it
abbrev pub downs : List Crossing → ℕ
downs cs = count_by (λ c. c.down) cs

abbrev pub ups : List Crossing → ℕ
ups cs = count_by (λ c. not c.down) cs

abbrev pub downs_to : ℤ → List Crossing → ℕ
downs_to i cs = count_by (λ c. c.down && int_le c.at i) cs

abbrev pub ups_to : ℤ → List Crossing → ℕ
ups_to i cs = count_by (λ c. not c.down && int_le c.at i) cs

abbrev pub downs_after : ℤ → List Crossing → ℕ
downs_after i cs = count_by (λ c. c.down && int_lt i c.at) cs

abbrev pub ups_after : ℤ → List Crossing → ℕ
ups_after i cs = count_by (λ c. not c.down && int_lt i c.at) cs

-- the crossings at or before sample i don't balance
abbrev pub is_odd : ℤ → List Crossing → Bool
is_odd i cs = not (nat_eq (downs_to i cs) (ups_to i cs))

-- the edges of closed rings, in order
pub record IsSweepable (list : List SweepEdge) : Type 0 where
  pub edges : All IsEdge list
  pub ordered : IsOrdered list
  pub even : (y : ℤ) → downs (row_crossings y list) ≡ ups (row_crossings y list)

-- sample i of row j lies inside the rings of the edges
abbrev pub is_inside : List SweepEdge → ℤ → ℤ → Bool
is_inside edges i j = is_odd i (row_crossings (place j) edges)
