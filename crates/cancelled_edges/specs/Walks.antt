-- Inner: walks along edges: from each edge to the next one, until all are taken.
use Rattle.std.specs.Prelude.{◌≡◌, ℕ, ◌+◌, ◌<◌, ◌≤◌, Bool, true, false, cond, List, [], ◌∷◌, length, slice_index_or}
use Rattle.ass_num.specs.Winding.{line}
use Rattle.ass_num.specs.declared.geometry.Point.{Point}
use Rattle.cancelled_edges.specs.declared.edges.Edge.{Edge}
use Rattle.cancelled_edges.specs.Edges.{way, is_before}

-- the sum over the edges that aren't taken
abbrev pub untaken_sum : (Point × Point → ℕ) → List Edge → List Bool → ℕ
untaken_sum f [] taken = 0
untaken_sum f (e ∷ es) [] = 0
untaken_sum f (e ∷ es) (t ∷ taken) = cond t 0 (f (way e)) + untaken_sum f es taken

-- the edges along points and on to q
abbrev pub open_line : List Point → Point → List (Point × Point)
open_line [] q = []
open_line (p ∷ rest) q = line p rest q

-- No point comes before an earlier one.
abbrev pub IsInPointOrder : List Point → Type 0
IsInPointOrder points = (i j : ℕ) (d : Point) → i ≤ j → j < length points → is_before (slice_index_or points j d) (slice_index_or points i d) ≡ false

-- For each edge, the place of another that begins where it ends; no place twice.
pub record IsNext (es : List Edge) (next : List ℕ) : Type 0 where
  pub same_length : length next ≡ length es
  pub within : (k d : ℕ) → k < length es → slice_index_or next k d < length es
  pub meets : (k : ℕ) (d : Edge) → k < length es → (slice_index_or es (slice_index_or next k 0) d).from ≡ (slice_index_or es k d).to
  pub once : (j k : ℕ) → j < length es → k < length es → slice_index_or next j 0 ≡ slice_index_or next k 0 → j ≡ k

-- The edge before a taken one is taken, too.
abbrev pub IsTakenWhole : List ℕ → List Bool → Type 0
IsTakenWhole next taken = (k : ℕ) → k < length next → slice_index_or taken (slice_index_or next k 0) true ≡ true → slice_index_or taken k true ≡ true
