-- Inner: what the functions inside say of each other: where lines may begin, and which limit on their width makes the widest one least.
use Rattle.std.specs.Prelude.{◌≡◌, ℕ, ℤ, pos, ◌+◌, ◌-◌, ◌≤◌, ◌-ℤ◌, ◌≤ℤ◌, ◌⊎◌, ◌==◌, Bool, List, length, slice_index, slice_index_or, if◌then◌else◌}
use Rattle.line_layout.specs.Breaks.{pen, width, AreFrom, AllFit, IsTaken}

-- where a line begins that has `k` break places before it, the nearest of them chosen
abbrev pub line_start : List ℕ → ℕ → ℕ
line_start spaces k = if k == 0 then 0 else slice_index spaces (k - 1) + 1

-- where a line ends at the break place `k`, or at the end where there are no more
abbrev pub line_end : List ℤ → List ℕ → ℕ → ℕ
line_end widths spaces k = slice_index_or spaces k (length widths)

-- how far the unbroken line has come at each break place, and at the end
pub record ArePens (widths : List ℤ) (spaces : List ℕ) (pens : List ℤ) : Type 0 where
  pub count : length pens ≡ length spaces + 1
  pub each : (k : ℕ) → k ≤ length spaces → slice_index_or pens k (pos 0) ≡ pen widths (line_end widths spaces k)

-- the width between the break place before `k` and break place `k`
abbrev pub word_width : List ℤ → List ℕ → ℕ → ℤ
word_width widths spaces k = width widths (line_start spaces k) (line_end widths spaces k)

-- the least width that all words have room in
pub record IsWidestWord (widths : List ℤ) (spaces : List ℕ) (widest : ℤ) : Type 0 where
  pub above : (k : ℕ) → k ≤ length spaces → word_width widths spaces k ≤ℤ widest
  pub least : (other : ℤ) → ((k : ℕ) → k ≤ length spaces → word_width widths spaces k ≤ℤ other) → widest ≤ℤ other

-- Under the limit, no set makes fewer lines, and of those that make as few this one is taken.
pub record IsOutermost (widths : List ℤ) (spaces : List ℕ) (limit : ℤ) (greatest : Bool) (places : List ℕ) : Type 0 where
  pub chosen : AreFrom spaces 0 places
  pub fit : AllFit widths spaces limit 0 places
  pub fewest : (other : List ℕ) → AreFrom spaces 0 other → AllFit widths spaces limit 0 other → length places ≤ length other
  pub taken : (other : List ℕ) → AreFrom spaces 0 other → AllFit widths spaces limit 0 other → length places ≡ length other → IsTaken greatest places other

-- some set of at most `count` places whose lines fit under the limit
abbrev pub Suffices : List ℤ → List ℕ → ℕ → ℤ → Type 0
Suffices widths spaces count limit = (places : List ℕ) × AreFrom spaces 0 places × AllFit widths spaces limit 0 places × (length places ≤ count)

-- `limit` is the least, from the widest word on, under which at most `count` places are enough; but it is at most `max`.
pub record IsLeastLimit (widths : List ℤ) (spaces : List ℕ) (max : ℤ) (count : ℕ) (limit : ℤ) : Type 0 where
  pub word : (word : ℤ) × IsWidestWord widths spaces word
  pub within : limit ≤ℤ max
  pub roomy : (word : ℤ) → IsWidestWord widths spaces word → (word ≤ℤ limit) ⊎ (max ≤ℤ limit)
  pub enough : Suffices widths spaces count limit
  pub least : (word : ℤ) → IsWidestWord widths spaces word → (limit ≤ℤ word) ⊎ (Suffices widths spaces count (limit -ℤ pos 1) → ⊥)
