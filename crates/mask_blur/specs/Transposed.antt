-- Inner: bytes whose rows are the columns of others.
use Rattle.std.specs.Prelude.{◌≡◌, ℕ, ◌+◌, ◌*◌, ◌<◌, ◌≤◌, List, slice_index}

-- Place (u, v) of rows of h bytes has what stands at (v, u) in rows of w bytes.
abbrev pub IsTransposedAt : (w h : ℕ) (from to : List ℕ) (u v : ℕ) → Type 0
IsTransposedAt w h from to u v = slice_index to (u * h + v) ≡ slice_index from (v * w + u)

-- (u, v) is one of 16 by 16 places from (i, j) on.
abbrev pub IsInTile : (i j u v : ℕ) → Type 0
IsInTile i j u v = (i ≤ u) × (u < i + 16) × (j ≤ v) × (v < j + 16)
