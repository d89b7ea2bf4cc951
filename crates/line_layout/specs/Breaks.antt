-- Public: where a paragraph is broken into lines. Widths are in 1/64 pixel, and `widths` has that of each item; the break places are items too.
-- A set of break places is the ascending list of its members.
-- (Advanced SubStation Alpha, "WrapStyle"; Aegisub tag reference, "\q".)
use Rattle.std.specs.Prelude.{◌≡◌, ℕ, ℤ, pos, ◌+◌, ◌<◌, ◌≤◌, ◌+ℤ◌, ◌-ℤ◌, ◌<ℤ◌, ◌≤ℤ◌, ◌⊎◌, Bool, true, false, List, [], ◌∷◌, length, take, fold, slice_index}
use Rattle.std.specs.Int.{int_max}
use Rattle.std.specs.List.{All}
use Rattle.ass_num.specs.Limits.{max_text_bytes}

-- the widest that an item may be
abbrev pub max_width : ℕ
max_width = 1048576

-- the width of an item
abbrev pub IsItemWidth : ℤ → Type 0
IsItemWidth w = (pos 0 ≤ℤ w) × (w ≤ℤ pos max_width)

-- A paragraph: so many items as a text may have, none too wide, and its break places in ascending order.
pub record IsParagraph (widths : List ℤ) (spaces : List ℕ) : Type 0 where
  pub short : length widths ≤ max_text_bytes
  pub narrow : All IsItemWidth widths
  pub within : (k : ℕ) → k < length spaces → slice_index spaces k < length widths
  pub ascending : (k : ℕ) → k + 1 < length spaces → slice_index spaces k < slice_index spaces (k + 1)

-- where item `k` begins if nothing is broken: after all widths before it
abbrev pub pen : List ℤ → ℕ → ℤ
pen widths k = fold ◌+ℤ◌ (pos 0) (take k widths)

-- how wide the items are from `from` up to `to`
abbrev pub width : List ℤ → ℕ → ℕ → ℤ
width widths from to = pen widths to -ℤ pen widths from

-- The item is a break place.
abbrev pub IsBreakPlace : List ℕ → ℕ → Type 0
IsBreakPlace spaces place = (k : ℕ) × (k < length spaces) × (slice_index spaces k ≡ place)

-- No break place lies in the line of the items from `from` up to `to`.
abbrev pub IsUnbreakable : List ℕ → ℕ → ℕ → Type 0
IsUnbreakable spaces from to = (place : ℕ) → IsBreakPlace spaces place → from ≤ place → place < to → ⊥

-- The line fits: it is no wider than the limit, or it can't be broken.
abbrev pub LineFits : List ℤ → List ℕ → ℤ → ℕ → ℕ → Type 0
LineFits widths spaces limit from to = (width widths from to ≤ℤ limit) ⊎ IsUnbreakable spaces from to

-- The places are a set of break places, none before `from`.
abbrev pub AreFrom : List ℕ → ℕ → List ℕ → Type 0
AreFrom spaces from [] = Unit {0}
AreFrom spaces from (p ∷ places) = IsBreakPlace spaces p × (from ≤ p) × AreFrom spaces (p + 1) places

-- The places cut the items from `from` on into lines, which all fit. An item at which a line is broken belongs to no line.
abbrev pub AllFit : List ℤ → List ℕ → ℤ → ℕ → List ℕ → Type 0
AllFit widths spaces limit from [] = LineFits widths spaces limit from (length widths)
AllFit widths spaces limit from (p ∷ places) = LineFits widths spaces limit from p × AllFit widths spaces limit (p + 1) places

-- the width of the widest of these lines
abbrev pub widest : List ℤ → ℕ → List ℕ → ℤ
widest widths from [] = width widths from (length widths)
widest widths from (p ∷ places) = int_max (width widths from p) (widest widths (p + 1) places)

-- The first list comes before the second one in lexicographic order, or is the same.
abbrev pub IsAtMost : List ℕ → List ℕ → Type 0
IsAtMost [] ys = Unit {0}
IsAtMost (x ∷ xs) [] = ⊥
IsAtMost (x ∷ xs) (y ∷ ys) = (x < y) ⊎ ((x ≡ y) × IsAtMost xs ys)

-- Of two lists of places that serve equally well, the greater or the lesser one is taken.
abbrev pub IsTaken : Bool → List ℕ → List ℕ → Type 0
IsTaken true places other = IsAtMost other places
IsTaken false places other = IsAtMost places other

-- The places are no worse than the other ones: they make fewer lines, or else a narrower widest line, or else they are taken.
abbrev pub IsNoWorse : List ℤ → Bool → List ℕ → List ℕ → Type 0
IsNoWorse widths greatest places other =
    (length places < length other)
    ⊎ ((length places ≡ length other)
    × ((widest widths 0 places <ℤ widest widths 0 other)
    ⊎ ((widest widths 0 places ≡ widest widths 0 other) × IsTaken greatest places other)))

-- Of all sets of break places whose lines all fit, this is the best.
pub record IsBest (widths : List ℤ) (spaces : List ℕ) (max : ℤ) (greatest : Bool) (places : List ℕ) : Type 0 where
  pub chosen : AreFrom spaces 0 places
  pub fit : AllFit widths spaces max 0 places
  pub best : (other : List ℕ) → AreFrom spaces 0 other → AllFit widths spaces max 0 other → IsNoWorse widths greatest places other

-- `p` is the last break place up to which the line from `from` is no wider than the limit.
pub record IsLastWithin (widths : List ℤ) (spaces : List ℕ) (limit : ℤ) (from p : ℕ) : Type 0 where
  pub narrow : width widths from p ≤ℤ limit
  pub last : (other : ℕ) → IsBreakPlace spaces other → p < other → limit <ℤ width widths from other

-- `p` is the first break place from `from` on, and there is none up to which the line is no wider than the limit.
abbrev pub IsFirstOfNone : List ℤ → List ℕ → ℤ → ℕ → ℕ → Type 0
IsFirstOfNone widths spaces limit from p = (other : ℕ) → IsBreakPlace spaces other → from ≤ other → (p ≤ other) × (limit <ℤ width widths from other)

-- The items from `from` on don't fit in one line, and `p` is where the line is broken.
pub record IsNextBreak (widths : List ℤ) (spaces : List ℕ) (limit : ℤ) (from p : ℕ) : Type 0 where
  pub needed : LineFits widths spaces limit from (length widths) → ⊥
  pub place : IsBreakPlace spaces p
  pub onward : from ≤ p
  pub broken : IsLastWithin widths spaces limit from p ⊎ IsFirstOfNone widths spaces limit from p

-- The lines are filled one after another from `from` on, as long as what is left doesn't fit in one line.
abbrev pub AreFilled : List ℤ → List ℕ → ℤ → ℕ → List ℕ → Type 0
AreFilled widths spaces limit from [] = LineFits widths spaces limit from (length widths)
AreFilled widths spaces limit from (p ∷ places) = IsNextBreak widths spaces limit from p × AreFilled widths spaces limit (p + 1) places
