-- Public: INDEXes (Adobe Technical Note 5176, "INDEX Data").
use Rattle.std.specs.Prelude.{ℕ, ◌+◌, ◌*◌, Bool, ◌&&◌, ◌||◌, ◌==◌, nat_lt, nat_le, if◌then◌else◌, List, Option, Some, None}
use Rattle.font_bytes.specs.Bytes.{u8_at, u16_at, u32_at}
use Rattle.cff_font.specs.declared.tokens.Span.{Span}
use Rattle.cff_font.specs.declared.indexes.Index.{Index}

-- an offset of so many bytes, from 1 to 4
abbrev pub offset_at : List ℕ → ℕ → ℕ → ℕ
offset_at bytes size at =
    if size == 1 then u8_at bytes at
    else if size == 2 then u16_at bytes at
    else if size == 3 then u8_at bytes at * 65536 + u16_at bytes (at + 1)
    else u32_at bytes at

-- an INDEX without items, whose count ends at `end`
abbrev pub no_items : ℕ → Index
no_items end = record { count = 0; size = 1; first = end; base = end; end = end }

-- The INDEX at a place, which has some items and offsets of this size. Offsets are counted from the byte before the data, `base`.
abbrev pub index_with : List ℕ → ℕ → ℕ → ℕ → Index
index_with bytes at count size = record {
  count = count;
  size = size;
  first = at + 3;
  base = at + 2 + size * (count + 1);
  end = at + 2 + size * (count + 1) + offset_at bytes size (at + 3 + size * count);
}

-- whether it ends behind its offsets and not behind its table
abbrev pub ends_within : ℕ → Index → Bool
ends_within stop index = nat_lt index.base index.end && nat_le index.end stop

abbrev pub index_if_whole : ℕ → Index → Option Index
index_if_whole stop index = if ends_within stop index then Some index else None

abbrev pub index_of_size : List ℕ → ℕ → ℕ → ℕ → ℕ → Option Index
index_of_size bytes stop at count size = if nat_lt size 1 || nat_lt 4 size then None else index_if_whole stop (index_with bytes at count size)

-- the INDEX at a place of a table that ends at `stop`; nothing where it isn't whole
abbrev pub index_at : List ℕ → ℕ → ℕ → Option Index
index_at bytes stop at =
    if nat_lt stop (at + 2) then None
    else if u16_at bytes at == 0 then Some (no_items (at + 2))
    else index_of_size bytes stop at (u16_at bytes at) (u8_at bytes (at + 2))

-- the bytes between two offsets, which ascend from 1 on and don't leave the data
abbrev pub item_between : Index → ℕ → ℕ → Option Span
item_between index from to =
    if nat_le 1 from && (nat_le from to && nat_le (index.base + to) index.end)
    then Some (record { from = index.base + from; to = index.base + to })
    else None

-- the bytes of item k
abbrev pub item_at : List ℕ → Index → ℕ → Option Span
item_at bytes index k =
    if nat_lt k index.count
    then item_between index (offset_at bytes index.size (index.first + index.size * k)) (offset_at bytes index.size (index.first + index.size * (k + 1)))
    else None
