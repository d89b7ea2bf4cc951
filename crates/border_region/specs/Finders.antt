-- Inner: strips that are found and widened.
use Rattle.std.specs.Prelude.{◌≡◌, ℕ, ◌<◌, ℤ, pos, neg_ℤ, ◌+ℤ◌, ◌++◌, ◌∷◌, [], List, length}
use Rattle.ass_num.specs.Regions.{RegionValue}
use Rattle.ass_num.specs.declared.region.Run.{Run}
use Rattle.border_region.specs.Ellipse.{AreFalling, AreHalfWidths}
use Rattle.border_region.specs.Held.{HoldStrips}
use Rattle.border_region.specs.Keys.{key_at}
use Rattle.border_region.specs.Reach.{IsProfileOf, IsWidenedSide}
use Rattle.border_region.specs.Strips.{run_in}
use Rattle.border_region.specs.declared.wide_strips.StripFinder.{StripFinder}
use Rattle.border_region.specs.declared.wide_strips.WideStrips.{WideStrips}

-- the runs lie between two sides, the right one by numbers with their sign turned
pub record AreBetween (lefts rights : List ℤ) (runs : List Run) : Type 0 where
  pub count : length runs ≡ length lefts
  pub left : (m : ℕ) → m < length lefts → (run_in runs m).from ≡ key_at lefts m
  pub right : (m : ℕ) → m < length lefts → (run_in runs m).to ≡ neg_ℤ (key_at rights m)

-- the runs of a strip that was widened, one a row
pub record IsWideStrip (profile lefts rights : List ℤ) (runs : List Run) : Type 0 where
  pub wide_lefts : List ℤ
  pub wide_rights : List ℤ
  pub left : IsWidenedSide profile lefts wide_lefts
  pub right : IsWidenedSide profile rights wide_rights
  pub between : AreBetween wide_lefts wide_rights runs

-- one more strip stands at the end
pub record AddsStrip (first : ℤ) (runs : List Run) (old new : WideStrips) : Type 0 where
  pub spans_are : new.spans.items ≡ old.spans.items ++ record { first = first; end = first +ℤ pos (length runs); place = length old.runs } ∷ []
  pub runs_are : new.runs ≡ old.runs ++ runs ∷ []

-- the finder widens by the ellipse
pub record IsReady (rx ry : ℕ) (finder : StripFinder) : Type 0 where
  pub across : finder.ellipse.rx ≡ rx
  pub down : finder.ellipse.ry ≡ ry
  pub widths : AreHalfWidths rx ry finder.ellipse.half_widths.items
  pub falling : AreFalling finder.ellipse.half_widths.items
  pub profile : IsProfileOf finder.ellipse.half_widths.items finder.profile.items

-- and the strips of all runs before run n of row k are found
pub record HasFound (region : RegionValue) (rx ry : ℕ) (k n : ℕ) (finder : StripFinder) : Type 0 where
  pub ready : IsReady rx ry finder
  pub holds : HoldStrips region rx ry finder.ellipse.half_widths.items k n finder.wide.spans.items finder.wide.runs
