-- Public: edges that cancel their opposites.
use Rattle.std.specs.Prelude.{◌≡◌, ℕ, ◌-◌, Bool, ◌&&◌, List, count_by}
use Rattle.std.specs.Ordering.{int_eq}
use Rattle.ass_num.specs.Winding.{edges_of}
use Rattle.ass_num.specs.declared.geometry.Point.{Point}

abbrev pub same_point : Point → Point → Bool
same_point p q = int_eq p.x q.x && int_eq p.y q.y

-- the two edges have the same beginning and the same end
abbrev pub same_edge : Point × Point → Point × Point → Bool
same_edge d e = same_point d.0 e.0 && same_point d.1 e.1

-- the edge the other way
abbrev pub opposite : Point × Point → Point × Point
opposite e = (e.1, e.0)

-- how often the rings have an edge
abbrev pub edge_count : Point × Point → List (List Point) → ℕ
edge_count e rings = count_by (same_edge e) (edges_of rings)

-- The rings have each edge as often as the outline has it more often than its opposite.
abbrev pub IsCancelled : List (List Point) → List (List Point) → Type 0
IsCancelled outline rings = (e : Point × Point) → edge_count e rings ≡ edge_count e outline - edge_count (opposite e) outline
