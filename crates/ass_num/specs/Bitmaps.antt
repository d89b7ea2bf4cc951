-- Public: which pixels of a bitmap are set.
use Rattle.std.specs.Prelude.{ℕ, ◌+◌, ◌-◌, ◌*◌, ◌/◌, ◌%◌, ◌^◌, ◌==◌, Bool, List, slice_index}

-- whether the pixel in column i and row j of a bitmap w pixels wide is set: rows from the top, each of whole bytes, the highest bit leftmost
abbrev pub pixel_is_set : ℕ → List ℕ → ℕ → ℕ → Bool
pixel_is_set w bits i j = (slice_index bits (j * ((w + 7) / 8) + i / 8) / 2 ^ (7 - i % 8)) % 2 == 1
