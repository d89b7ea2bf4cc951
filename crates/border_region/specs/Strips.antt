-- Inner: strips: runs of rows that follow one another, each going on in the next.
use Rattle.std.specs.Prelude.{◌≡◌, ℕ, zero, suc, ◌+◌, ◌<◌, ◌≤◌, ℤ, pos, neg_ℤ, ◌≤ℤ◌, ◌<ℤ◌, List, [], length, slice_index_or}
use Rattle.ass_num.specs.declared.region.Run.{Run}
use Rattle.border_region.specs.Keys.{key_at}

abbrev pub no_run : Run
no_run = record { from = pos 0; to = pos 0 }

abbrev pub run_in : List Run → ℕ → Run
run_in runs n = slice_index_or runs n no_run

abbrev pub runs_of_row : List (List Run) → ℕ → List Run
runs_of_row rows k = slice_index_or rows k []

-- two runs have a column in common, or stand side by side
abbrev pub DoMeet : Run → Run → Type 0
DoMeet a b = (a.from ≤ℤ b.to) × (b.from ≤ℤ a.to)

-- the run before the one at `n`, if there is one, ends before the place
abbrev pub EndsShortOf : List Run → ℕ → ℤ → Type 0
EndsShortOf runs n place = (m : ℕ) → m + 1 ≡ n → (run_in runs m).to <ℤ place

-- A run goes on in a run of the row below: they meet, and the run before neither meets the other.
pub record GoesOn (above : List Run) (p : ℕ) (below : List Run) (n : ℕ) : Type 0 where
  pub from : p < length above
  pub to : n < length below
  pub meet : DoMeet (run_in above p) (run_in below n)
  pub first_above : EndsShortOf above p (run_in below n).from
  pub first_below : EndsShortOf below n (run_in above p).from

-- so many of the runs end before the place, and they come first
pub record AreBefore (place : ℤ) (runs : List Run) (count : ℕ) : Type 0 where
  pub within : count ≤ length runs
  pub before : (n : ℕ) → n < count → (run_in runs n).to <ℤ place
  pub after : (n : ℕ) → count ≤ n → n < length runs → place ≤ℤ (run_in runs n).to

-- no run of the row above goes on in run n of row k, or one does
abbrev pub BeginsStrip : List (List Run) → ℕ → ℕ → Type 0
BeginsStrip rows k n = (y p : ℕ) → y + 1 ≡ k → GoesOn (runs_of_row rows y) p (runs_of_row rows k) n → ⊥

abbrev pub FollowsOne : List (List Run) → ℕ → ℕ → Type 0
FollowsOne rows k n = (y : ℕ) × (p : ℕ) × (y + 1 ≡ k) × GoesOn (runs_of_row rows y) p (runs_of_row rows k) n

-- d rows on, the strip that begins with run n of row k has the run at m
abbrev pub StripHas : List (List Run) → ℕ → ℕ → ℕ → ℕ → Type 0
StripHas rows k n zero m = (m ≡ n) × (n < length (runs_of_row rows k))
StripHas rows k n (suc d) m = (p : ℕ) × StripHas rows k n d p × GoesOn (runs_of_row rows (k + d)) p (runs_of_row rows (k + suc d)) m

-- the sides in row d are those of the run: where it begins, and where it ends with its sign turned
abbrev pub AreSidesOf : Run → List ℤ → List ℤ → ℕ → Type 0
AreSidesOf run lefts rights d = (key_at lefts d ≡ run.from) × (key_at rights d ≡ neg_ℤ run.to)

-- what the sides of rows that follow one another have for their runs to meet
abbrev pub DoSidesMeet : List ℤ → List ℤ → ℕ → Type 0
DoSidesMeet lefts rights d = (key_at lefts d ≤ℤ neg_ℤ (key_at rights (d + 1))) × (key_at lefts (d + 1) ≤ℤ neg_ℤ (key_at rights d))

-- a strip's sides, row by row: no run is empty, and each meets the next
pub record IsStrip (lefts rights : List ℤ) : Type 0 where
  pub some : 0 < length lefts
  pub same : length rights ≡ length lefts
  pub full : (d : ℕ) → d < length lefts → key_at lefts d <ℤ neg_ℤ (key_at rights d)
  pub meet : (d : ℕ) → d + 1 < length lefts → DoSidesMeet lefts rights d

-- the strip that begins with run n of row k
pub record IsStripFrom (rows : List (List Run)) (k n : ℕ) (lefts rights : List ℤ) : Type 0 where
  pub strip : IsStrip lefts rights
  pub held : (d : ℕ) → d < length lefts → (m : ℕ) × StripHas rows k n d m × AreSidesOf (run_in (runs_of_row rows (k + d)) m) lefts rights d
  pub all : (d m : ℕ) → StripHas rows k n d m → (d < length lefts) × AreSidesOf (run_in (runs_of_row rows (k + d)) m) lefts rights d
