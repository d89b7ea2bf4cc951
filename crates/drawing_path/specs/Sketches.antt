-- Inner: a path so far, and where it has the last spline of its last figure.
use Rattle.std.specs.Prelude.{◌≡◌, ℕ, Bool, false, Option, Some, None, List, ◌∷◌, ◌++◌, length}
use Rattle.std.specs.List.{list_any}
use Rattle.ass_num.specs.declared.geometry.Point.{Point}
use Rattle.ass_num.specs.declared.geometry.Seg.{Seg}
use Rattle.ass_num.specs.declared.geometry.Seg.TheVariants.{Spline}
use Rattle.drawing_path.specs.declared.command.Command.{Command}
use Rattle.drawing_path.specs.declared.sketch.Sketch.{Sketch}
use Rattle.drawing_path.specs.Paths.{is_figure_or_spline, last_spline_changed, after_command}

-- At this place stands a spline, and behind it neither another one nor the beginning of a figure.
pub record IsLastSpline (path : List Seg) (place : ℕ) : Type 0 where
  pub before : List Seg
  pub control : List Point
  pub closed : Bool
  pub behind : List Seg
  pub parts : path ≡ before ++ (Spline control closed ∷ behind)
  pub count : length before ≡ place
  pub local : list_any is_figure_or_spline behind ≡ false

-- The place of the last spline of the last figure, or that this figure has none.
abbrev pub IsSplinePlace : List Seg → Option ℕ → Type 0
IsSplinePlace path None = (change : List Point → Bool → Seg) → last_spline_changed change path ≡ path
IsSplinePlace path (Some place) = IsLastSpline path place

-- A sketch knows the place of that spline.
abbrev pub IsSketch : Sketch → Type 0
IsSketch sketch = IsSplinePlace sketch.segs.items sketch.spline

-- A sketch after a command.
pub record FollowsCommand (old new : Sketch) (command : Command) (points : List Point) : Type 0 where
  pub path : new.segs.items ≡ after_command old.segs.items command points
  pub place : IsSplinePlace new.segs.items new.spline
