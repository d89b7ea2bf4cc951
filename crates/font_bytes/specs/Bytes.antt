-- Public: numbers in a file. They are big-endian; a byte behind the end counts as 0.
use Rattle.std.specs.Prelude.{ℕ, ◌+◌, ◌*◌, ◌^◌, ◌<◌, List, slice_index, nat_lt, if◌then◌else◌, ℤ, pos, ◌-ℤ◌}

-- the byte at a place
abbrev pub u8_at : List ℕ → ℕ → ℕ
u8_at bytes i = slice_index bytes i

-- the number of two bytes
unfoldable pub u16_at : List ℕ → ℕ → ℕ
u16_at bytes i = u8_at bytes i * 256 + u8_at bytes (i + 1)

-- the number of four bytes
unfoldable pub u32_at : List ℕ → ℕ → ℕ
u32_at bytes i = u16_at bytes i * 65536 + u16_at bytes (i + 2)

-- the number whose first bit is the sign, where there are `unit` numbers
abbrev pub with_sign : ℕ → ℕ → ℤ
with_sign half n = if nat_lt n half then pos n else (pos n -ℤ pos (2 * half))

-- the number of two bytes with a sign
unfoldable pub s16_at : List ℕ → ℕ → ℤ
s16_at bytes i = with_sign 32768 (u16_at bytes i)

-- the number of a byte with a sign
unfoldable pub s8_at : List ℕ → ℕ → ℤ
s8_at bytes i = with_sign 128 (u8_at bytes i)

-- Where a number may be read. This is a condition of calls; no file has so many bytes.
abbrev pub IsPlace : ℕ → Type 0
IsPlace i = i < 2 ^ 40
