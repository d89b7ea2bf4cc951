-- Public: the path of a drawing: each command in turn adds to the path so far.
use Rattle.std.specs.Prelude.{◌≡◌, ℕ, ℤ, ◌-◌, if◌then◌else◌, Bool, true, false, Option, Some, List, [], ◌∷◌, ◌++◌, take, length, map, slice_get}
use Rattle.std.specs.List.{list_any}
use Rattle.std.specs.Option.{option_and_then}
use Rattle.ass_num.specs.declared.geometry.Point.{Point}
use Rattle.ass_num.specs.declared.geometry.Seg.{Seg}
use Rattle.ass_num.specs.declared.geometry.Seg.TheVariants.{Move, Line, Cubic, Spline}
use Rattle.drawing_path.specs.declared.command.Command.{Command}
use Rattle.drawing_path.specs.declared.command.Command.TheVariants.{Begin, Lines, Cubics, NewSpline, Extend, Close}
use Rattle.drawing_path.specs.Tokens.{Token, Letter, Number, Skipped, AreTokens}

-- the numbers before the next letter
abbrev pub leading_numbers : List Token → List ℤ
leading_numbers [] = []
leading_numbers (Letter _ ∷ _) = []
leading_numbers (Number value ∷ tokens) = value ∷ leading_numbers tokens
leading_numbers (Skipped ∷ tokens) = leading_numbers tokens

-- Two numbers are a point; one that is left over is dropped.
abbrev pub points_of : List ℤ → List Point
points_of (x ∷ (y ∷ numbers)) = record { x = x; y = y } ∷ points_of numbers
points_of _ = []

-- Three points are a cubic; one or two that are left over are dropped.
abbrev pub cubics_of : List Point → List Seg
cubics_of (a ∷ (b ∷ (c ∷ points))) = Cubic a b c ∷ cubics_of points
cubics_of _ = []

-- the last point of a segment
abbrev pub end_of : Seg → Option Point
end_of (Move point) = Some point
end_of (Line point) = Some point
end_of (Cubic _ _ point) = Some point
end_of (Spline points _) = slice_get points (length points - 1)

-- the last vertex of a path
abbrev pub last_vertex : List Seg → Option Point
last_vertex path = option_and_then end_of (slice_get path (length path - 1))

-- A spline from the last vertex by at least three further points; by fewer there is none.
abbrev pub spline_by : Option Point → List Point → List Seg
spline_by (Some vertex) (a ∷ (b ∷ (c ∷ points))) = Spline (vertex ∷ (a ∷ (b ∷ (c ∷ points)))) false ∷ []
spline_by _ _ = []

-- segments behind a path, once it has a first figure
abbrev pub continued : List Seg → List Seg → List Seg
continued [] _ = []
continued (first ∷ path) more = (first ∷ path) ++ more

-- whether a spline before this segment is out of reach: a figure begins here, or this is a spline itself
abbrev pub is_figure_or_spline : Seg → Bool
is_figure_or_spline (Move _) = true
is_figure_or_spline (Spline _ _) = true
is_figure_or_spline _ = false

-- a segment with a change of its points and its flag, if it is a spline
abbrev pub spline_changed : (List Point → Bool → Seg) → Seg → Seg
spline_changed change (Spline points closed) = change points closed
spline_changed change other = other

-- a path with a change of the last spline of its last figure, if that has one
abbrev pub last_spline_changed : (List Point → Bool → Seg) → List Seg → List Seg
last_spline_changed change [] = []
last_spline_changed change (seg ∷ path) =
    if list_any is_figure_or_spline path then seg ∷ last_spline_changed change path else spline_changed change seg ∷ path

-- The path after a command with its points:
-- `m` and `n` begin a figure with each point; `l` adds a line to each; `b` takes three for each cubic;
-- `s` adds a spline, `p` adds its points to the last spline of the figure, and `c` the first three points of that spline once more.
abbrev pub after_command : List Seg → Command → List Point → List Seg
after_command path Begin points = path ++ map Move points
after_command path Lines points = continued path (map Line points)
after_command path Cubics points = continued path (cubics_of points)
after_command path NewSpline points = continued path (spline_by (last_vertex path) points)
after_command path Extend points = last_spline_changed (λ control closed. Spline (control ++ points) closed) path
after_command path Close points = last_spline_changed (λ control _. Spline (control ++ take 3 control) true) path

-- the path after all commands of these tokens; numbers before the first letter belong to none
abbrev pub path_after : List Seg → List Token → List Seg
path_after path [] = path
path_after path (Letter command ∷ tokens) = path_after (after_command path command (points_of (leading_numbers tokens))) tokens
path_after path (Number _ ∷ tokens) = path_after path tokens
path_after path (Skipped ∷ tokens) = path_after path tokens

-- The path of a drawing's text.
pub record IsPathOf (text : List ℕ) (path : List Seg) : Type 0 where
  pub tokens : List Token
  pub read : AreTokens tokens text
  pub drawn : path ≡ path_after [] tokens
