-- Inner: the edges of an outline as the sweep takes them, and how far it has come.
use Rattle.std.specs.Prelude.{◌≡◌, ℕ, ℤ, ◌≤ℤ◌, ◌<ℤ◌, ◌≤◌, ◌<◌, true, false, int_lt, List, [], ◌∷◌, cond, length, take, drop, filter, All, slice_index_or}
use Rattle.ass_num.specs.Limits.{IsOutlinePoint}
use Rattle.ass_num.specs.declared.geometry.Point.{Point}
use Rattle.sample_region.specs.declared.edges.SweepEdge.{SweepEdge}

-- the edge from a to b from its upper end down; none where it is level
abbrev pub down_from : Point × Point → List SweepEdge
down_from e = cond (int_lt e.0.y e.1.y) (record { upper = e.0; lower = e.1; down = true } ∷ []) (cond (int_lt e.1.y e.0.y) (record { upper = e.1; lower = e.0; down = false } ∷ []) [])

-- the ends of the edge lie where points of outlines may
pub record IsEdge (e : SweepEdge) : Type 0 where
  pub upper : IsOutlinePoint e.upper
  pub lower : IsOutlinePoint e.lower

-- the keys of later items are no less
abbrev pub IsAscendingBy : {X : Type 0} → (X → ℤ) → List X → Type 0
IsAscendingBy {X} key xs = (i j : ℕ) (d : X) → i ≤ j → j < length xs → key (slice_index_or xs i d) ≤ℤ key (slice_index_or xs j d)

abbrev pub IsOrdered : List SweepEdge → Type 0
IsOrdered edges = IsAscendingBy (λ e. e.upper.y) edges

-- the edges that don't end above the row at y
abbrev pub unended : ℤ → List SweepEdge → List SweepEdge
unended y edges = filter (λ e. int_lt y e.lower.y) edges

-- The first edges have begun, and none that reaches the row at y or a later one is lost.
pub record IsSwept (y : ℤ) (edges : List SweepEdge) (begun : ℕ) (active : List SweepEdge) : Type 0 where
  pub active_is : (z : ℤ) → y ≤ℤ z → unended z active ≡ unended z (take begun edges)
  pub above : All (λ e. e.upper.y ≤ℤ y) (take begun edges)
  pub within : begun ≤ length edges

-- The sweep has come to the row at y: the first edges have begun, and those of them that don't end above the row are active.
pub record IsSweptTo (y : ℤ) (edges : List SweepEdge) (begun : ℕ) (active : List SweepEdge) : Type 0 where
  pub active_is : active ≡ unended y (take begun edges)
  pub above : All (λ e. e.upper.y ≤ℤ y) (take begun edges)
  pub below : All (λ e. y <ℤ e.upper.y) (drop begun edges)
  pub within : begun ≤ length edges

-- all edges begin below the row at y
abbrev pub BeginBelow : ℤ → List SweepEdge → Type 0
BeginBelow y edges = All (λ e. y <ℤ e.upper.y) edges

-- the edge stands upright and reaches below the row at y
abbrev pub IsUprightPast : ℤ → SweepEdge → Type 0
IsUprightPast y e = (e.upper.x ≡ e.lower.x) × (y <ℤ e.lower.y)

-- Down to the row at y no edge begins or ends, and those that have begun stand upright.
pub record IsSteady (y : ℤ) (edges : List SweepEdge) (begun : ℕ) (active : List SweepEdge) : Type 0 where
  pub begins : BeginBelow y (drop begun edges)
  pub upright : All (IsUprightPast y) active

-- the edge crosses the row at y
pub record IsCrossed (y : ℤ) (e : SweepEdge) : Type 0 where
  pub edge : IsEdge e
  pub begun : e.upper.y ≤ℤ y
  pub unended : y <ℤ e.lower.y
