-- Public: the samples of a row and the winding numbers of closed rings at them.
use Rattle.std.specs.Prelude.{ℤ, pos, ◌+ℤ◌, ◌-ℤ◌, ◌*ℤ◌, Bool, not, ◌&&◌, List, [], ◌∷◌, count_by, flat_map, int_lt, int_le}
use Rattle.std.specs.Ordering.{int_eq}
use Rattle.ass_num.specs.declared.geometry.Point.{Point}

-- where sample i of a row stands, and likewise row j: 16 samples a pixel, each in the middle of its 4 units
abbrev pub place : ℤ → ℤ
place i = pos 4 *ℤ i +ℤ pos 2

-- The way from a to b leads down across the height y. It begins at its upper end and doesn't reach its lower one.
abbrev pub spans : Point → Point → ℤ → Bool
spans a b y = int_le a.y y && int_lt y b.y

-- and passes (x, y) on its right
abbrev pub counts : Point → Point → ℤ → ℤ → Bool
counts a b x y = spans a b y && int_lt ((x -ℤ a.x) *ℤ (b.y -ℤ a.y)) ((b.x -ℤ a.x) *ℤ (y -ℤ a.y))

-- the edges from p along the points to the last one
abbrev pub line : Point → List Point → Point → List (Point × Point)
line p [] last = (p, last) ∷ []
line p (q ∷ rest) last = (p, q) ∷ line q rest last

-- the edges of a closed ring
abbrev pub edges : List Point → List (Point × Point)
edges [] = []
edges (p ∷ rest) = line p rest p

abbrev pub edges_of : List (List Point) → List (Point × Point)
edges_of rings = flat_map edges rings

-- the edges that pass sample i of row j on its right, those that lead down counted as 1 and those that lead up as -1
abbrev pub winding : List (List Point) → ℤ → ℤ → ℤ
winding rings i j = pos (count_by (λ e. counts e.0 e.1 (place i) (place j)) (edges_of rings)) -ℤ pos (count_by (λ e. counts e.1 e.0 (place i) (place j)) (edges_of rings))

abbrev pub inside : List (List Point) → ℤ → ℤ → Bool
inside rings i j = not (int_eq (winding rings i j) (pos 0))
