-- Inner: the widened strips of a region, and which samples they hold.
use Rattle.std.specs.Prelude.{◌≡◌, ℕ, ◌+◌, ◌<◌, ◌≤◌, ◌⊎◌, ℤ, pos, neg_ℤ, ◌+ℤ◌, ◌-ℤ◌, ◌≤ℤ◌, ◌<ℤ◌, true, List, [], length, slice_index, slice_index_or}
use Rattle.ass_num.specs.Limits.{IsWithin}
use Rattle.ass_num.specs.Regions.{RegionValue, member}
use Rattle.ass_num.specs.declared.region.Run.{Run}
use Rattle.region_rows.specs.Widened.{in_widened}
use Rattle.border_region.specs.Limits.{max_key}
use Rattle.border_region.specs.Strips.{run_in, runs_of_row, StripHas}
use Rattle.border_region.specs.declared.wide_strips.Span.{Span}

abbrev pub no_span : Span
no_span = record { first = pos 0; end = pos 0; place = 0 }

abbrev pub strip_span : List Span → ℕ → Span
strip_span spans s = slice_index_or spans s no_span

-- m rows below the first one, the widened strip at s has a run in row j
pub record HasRow (spans : List Span) (strips : List (List Run)) (j : ℤ) (s m : ℕ) : Type 0 where
  pub strip : s < length spans
  pub within : m < length (slice_index_or strips s [])
  pub row : (strip_span spans s).first +ℤ pos m ≡ j

abbrev pub row_run : List (List Run) → ℕ → ℕ → Run
row_run strips s m = run_in (slice_index_or strips s []) m

-- sample i of row j lies in a run of a widened strip
pub record IsHeldIn (spans : List Span) (strips : List (List Run)) (i j : ℤ) (s m : ℕ) : Type 0 where
  pub has : HasRow spans strips j s m
  pub left : (row_run strips s m).from ≤ℤ i
  pub right : i <ℤ (row_run strips s m).to

abbrev pub IsInStrips : List Span → List (List Run) → ℤ → ℤ → Type 0
IsInStrips spans strips i j = (s : ℕ) × (m : ℕ) × IsHeldIn spans strips i j s m

-- later strips begin no higher
abbrev pub BeginInOrder : List Span → Type 0
BeginInOrder spans = (s t : ℕ) → s ≤ t → t < length spans → (strip_span spans s).first ≤ℤ (strip_span spans t).first

-- the widened strips by their rows, in the order of their first rows
pub record AreStripSpans (spans : List Span) (strips : List (List Run)) : Type 0 where
  pub count : length strips ≡ length spans
  pub place : (s : ℕ) → s < length spans → (strip_span spans s).place ≡ s
  pub end : (s : ℕ) → s < length spans → (strip_span spans s).end ≡ (strip_span spans s).first +ℤ pos (length (slice_index_or strips s []))
  pub low : (s : ℕ) → s < length spans → neg_ℤ (pos max_key) ≤ℤ (strip_span spans s).first
  pub high : (s : ℕ) → s < length spans → (strip_span spans s).end ≤ℤ pos max_key
  pub ordered : BeginInOrder spans
  pub full : (s m : ℕ) → s < length spans → m < length (slice_index_or strips s []) → (row_run strips s m).from <ℤ (row_run strips s m).to

-- The ellipse around each sample of a run of row k is held.
abbrev pub IsReachHeld : ℤ → List ℕ → List Span → List (List Run) → ℕ → Run → Type 0
IsReachHeld top widths spans strips k run = (x i j : ℤ) (d : ℕ) → run.from ≤ℤ x → x <ℤ run.to → d < length widths → IsWithin (slice_index widths d) (i -ℤ x)
    → (j ≡ (top +ℤ pos k) +ℤ pos d) ⊎ (j ≡ (top +ℤ pos k) -ℤ pos d) → IsInStrips spans strips i j

-- so is that of each run of the strip that begins with run n of row k
abbrev pub IsStripHeld : RegionValue → List ℕ → List Span → List (List Run) → ℕ → ℕ → Type 0
IsStripHeld region widths spans strips k n = (d m : ℕ) → StripHas region.rows k n d m → IsReachHeld region.top widths spans strips (k + d) (run_in (runs_of_row region.rows (k + d)) m)

-- run q of row y comes before run n of row k
abbrev pub IsRunBefore : ℕ → ℕ → ℕ → ℕ → Type 0
IsRunBefore y q k n = (y < k) ⊎ ((y ≡ k) × (q < n))

-- The strips of all runs before run n of row k are held, and nothing beyond the widened region is.
pub record HoldStrips (region : RegionValue) (rx ry : ℕ) (widths : List ℕ) (k n : ℕ) (spans : List Span) (strips : List (List Run)) : Type 0 where
  pub are_spans : AreStripSpans spans strips
  pub before : (s : ℕ) → s < length spans → (strip_span spans s).first ≤ℤ ((region.top +ℤ pos k) -ℤ pos ry)
  pub reached : (i j : ℤ) → IsInStrips spans strips i j → in_widened (member region.top region.rows) rx ry i j ≡ true
  pub held : (y q : ℕ) → IsRunBefore y q k n → q < length (runs_of_row region.rows y) → IsStripHeld region widths spans strips y q

-- Just the samples of the widened region are held.
pub record HoldWidened (region : RegionValue) (rx ry : ℕ) (spans : List Span) (strips : List (List Run)) : Type 0 where
  pub are_spans : AreStripSpans spans strips
  pub reached : (i j : ℤ) → IsInStrips spans strips i j → in_widened (member region.top region.rows) rx ry i j ≡ true
  pub held : (i j : ℤ) → in_widened (member region.top region.rows) rx ry i j ≡ true → IsInStrips spans strips i j
