-- Inner: lists of edges, and what is left of them.
use Rattle.std.specs.Prelude.{◌≡◌, ℕ, ◌+◌, ◌-◌, ◌<◌, ◌≤◌, ◌⊎◌, ◌++◌, Bool, ◌&&◌, ◌||◌, ℤ, int_lt, cond, List, [], ◌∷◌, length, sum_by, slice_index_or}
use Rattle.std.specs.Ordering.{int_eq}
use Rattle.ass_num.specs.declared.geometry.Point.{Point}
use Rattle.cancelled_edges.specs.Cancelling.{same_point, opposite}
use Rattle.cancelled_edges.specs.declared.edges.Edge.{Edge}

-- the edge as the pair of its ends
abbrev pub way : Edge → Point × Point
way e = (e.from, e.to)

-- the edge of a pair of points; none where it leads nowhere
abbrev pub edge_from : Point × Point → List Edge
edge_from e = cond (same_point e.0 e.1) [] (record { from = e.0; to = e.1 } ∷ [])

-- What counts an edge as 1 and its opposite as -1 counts the same in both lists.
abbrev pub IsBalanced : List (Point × Point) → List Edge → Type 0
IsBalanced all kept =
    (f : Point × Point → ℕ) → sum_by f all + sum_by (λ (e : Edge). f (opposite (way e))) kept ≡ sum_by (λ (e : Edge). f (way e)) kept + sum_by (λ (e : Point × Point). f (opposite e)) all

-- two edges have the same two ends
abbrev pub HaveSameEnds : Edge → Edge → Type 0
HaveSameEnds d e = (way d ≡ way e) ⊎ (way d ≡ opposite (way e))

-- edges with the same two ends stand together
abbrev pub IsGrouped : List Edge → Type 0
IsGrouped es = (i j k : ℕ) (d : Edge) → i ≤ j → j ≤ k → k < length es → HaveSameEnds (slice_index_or es i d) (slice_index_or es k d) → HaveSameEnds (slice_index_or es j d) (slice_index_or es k d)

-- no edge has its opposite in the list
abbrev pub HasNoOpposites : List Edge → Type 0
HasNoOpposites es = (i j : ℕ) (d : Edge) → i < length es → j < length es → way (slice_index_or es i d) ≡ opposite (way (slice_index_or es j d)) → ⊥

-- as many edges begin at each point as end there
abbrev pub IsClosed : List Edge → Type 0
IsClosed es = (f : Point → ℕ) → sum_by (λ (e : Edge). f e.from) es ≡ sum_by (λ (e : Edge). f e.to) es

-- An edge is put at the end, or takes its opposite from there.
abbrev pub IsAdded : List Edge → Edge → List Edge → Type 0
IsAdded old e new =
    ((a : Edge) × (old ≡ new ++ a ∷ []) × (way a ≡ opposite (way e)))
    ⊎ ((((d : Edge) → 0 < length old → way (slice_index_or old (length old - 1) d) ≡ opposite (way e) → ⊥)) × (new ≡ old ++ e ∷ []))

-- the edge leads somewhere
abbrev pub LeadsSomewhere : Edge → Type 0
LeadsSomewhere e = e.from ≡ e.to → ⊥

-- a point before another: further left, or in the same column and higher
abbrev pub is_before : Point → Point → Bool
is_before p q = int_lt p.x q.x || (int_eq p.x q.x && int_lt p.y q.y)

-- the two ends of an edge in that order
abbrev pub ends_of : Edge → ℤ × ℤ × ℤ × ℤ
ends_of e = cond (is_before e.from e.to) (e.from.x, e.from.y, e.to.x, e.to.y) (e.to.x, e.to.y, e.from.x, e.from.y)
