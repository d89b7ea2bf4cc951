-- Inner: ascending keys.
use Rattle.std.specs.Prelude.{ℕ, ℤ, pos, ◌≤ℤ◌, ◌<ℤ◌, ◌<◌, ◌≤◌, List, length, slice_index_or}

abbrev pub key_at : List ℤ → ℕ → ℤ
key_at keys n = slice_index_or keys n (pos 0)

abbrev pub AreAscending : List ℤ → Type 0
AreAscending keys = (m n : ℕ) → m ≤ n → n < length keys → key_at keys m ≤ℤ key_at keys n

-- the keys up to `key` come first, so many of them
pub record AreUpTo (key : ℤ) (keys : List ℤ) (count : ℕ) : Type 0 where
  pub within : count ≤ length keys
  pub before : (n : ℕ) → n < count → key_at keys n ≤ℤ key
  pub after : (n : ℕ) → count ≤ n → n < length keys → key <ℤ key_at keys n
