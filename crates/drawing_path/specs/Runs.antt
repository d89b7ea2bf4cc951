-- Inner: the numbers behind a letter, up to the next letter of a command or the end.
use Rattle.std.specs.Prelude.{◌≡◌, ℕ, ℤ, ◌≤◌, Option, None, List, [], ◌∷◌, ◌++◌, length, drop, slice_get}
use Rattle.std.specs.Option.{option_and_then, option_to_list}
use Rattle.ass_num.specs.declared.geometry.Point.{Point}
use Rattle.ass_num.specs.declared.geometry.Seg.{Seg}
use Rattle.drawing_path.specs.declared.command.Command.{Command}
use Rattle.drawing_path.specs.Tokens.{Token, AreTokens, command_of}
use Rattle.drawing_path.specs.Paths.{leading_numbers, points_of, path_after}

-- the command whose letter stands at a place, if one does
abbrev pub command_at : List ℕ → ℕ → Option Command
command_at text at = option_and_then command_of (slice_get text at)

-- The tokens of a text that begins with numbers for these points and goes on with the tokens `rest`.
pub record BeginsWithPoints (text : List ℕ) (points : List Point) (rest : List Token) : Type 0 where
  pub tokens : List Token
  pub read : AreTokens tokens text
  pub points_are : points_of (leading_numbers tokens) ≡ points
  pub skipped : (path : List Seg) → path_after path tokens ≡ path_after path rest

-- The first `len` bytes of a text hold numbers for these points and no letter of a command; behind them stands one, or nothing.
pub record IsPointRun (text : List ℕ) (len : ℕ) (points : List Point) : Type 0 where
  pub within : len ≤ length text
  pub ends : command_at text len ≡ None → length text ≤ len
  pub begins : (rest : List Token) → leading_numbers rest ≡ [] → AreTokens rest (drop len text) → BeginsWithPoints text points rest

-- the coordinates of points, x before y
abbrev pub coordinates : List Point → List ℤ
coordinates [] = []
coordinates (point ∷ points) = point.x ∷ (point.y ∷ coordinates points)

-- One number more behind the coordinates of points and perhaps a number that waits for its partner.
abbrev pub AddsNumber : List Point → Option ℤ → ℤ → List Point → Option ℤ → Type 0
AddsNumber old waiting number new left =
    (rest : List ℤ) → coordinates new ++ (option_to_list left ++ rest) ≡ coordinates old ++ (option_to_list waiting ++ (number ∷ rest))
