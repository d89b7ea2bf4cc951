-- Inner: bytes that are added to rows of bytes, up to 255.
use Rattle.std.specs.Prelude.{◌≡◌, ℕ, pos, ◌+◌, ◌*◌, ◌<◌, ◌≤◌, ◌-ℤ◌, min, nat_lt, if◌then◌else◌, List, length, slice_index}
use Rattle.ass_num.specs.Masks.{MaskValue, offset_value}

-- Each byte is added to the one at its place from `from` on; the others stay.
pub record AddsRow (from : ℕ) (bytes old new : List ℕ) : Type 0 where
  pub inside : (i : ℕ) → i < length bytes → slice_index new (from + i) ≡ min 255 (slice_index old (from + i) + slice_index bytes i)
  pub before : (k : ℕ) → k < from → slice_index new k ≡ slice_index old k
  pub behind : (k : ℕ) → from + length bytes ≤ k → slice_index new k ≡ slice_index old k

-- what the first rows of a mask add to the byte of column i in row r, where its corner is placed in a column and a row
abbrev pub cell_added : MaskValue → ℕ → ℕ → ℕ → ℕ → ℕ → ℕ
cell_added mask column row count r i = if nat_lt r (row + count) then offset_value mask (pos i -ℤ pos column) (pos r -ℤ pos row) else 0

-- The first rows of a mask are added to rows of `width` bytes.
pub record AddsCells (mask : MaskValue) (width column row count : ℕ) (old new : List ℕ) : Type 0 where
  pub cells : (r i : ℕ) → i < width → (r + 1) * width ≤ length old → slice_index new (r * width + i) ≡ min 255 (slice_index old (r * width + i) + cell_added mask column row count r i)
