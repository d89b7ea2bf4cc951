-- Public: how wide glyphs are.
use Rattle.std.specs.Prelude.{ℕ, ◌+◌, ◌-◌, ◌*◌, ◌==◌, nat_lt, if◌then◌else◌, List, ℤ, pos}
use Rattle.sfnt_font.specs.declared.directory.Table.{Table}
use Rattle.font_bytes.specs.Bytes.{u16_at, s16_at}
use Rattle.sfnt_font.specs.declared.font.SfntFont.{SfntFont}

-- the advance of an entry of which at least so many bytes lie in the table, or else 0
abbrev pub advance_at : List ℕ → Table → ℕ → ℕ → ℕ
advance_at bytes hmtx i least = if nat_lt hmtx.size (i + least) then 0 else u16_at bytes (hmtx.place + i)

-- the advance of glyph g, where the first n glyphs have entries of 4 bytes of their own; the others have the last one's
abbrev pub entry_advance : List ℕ → Table → ℕ → ℕ → ℕ
entry_advance bytes hmtx n g =
    if n == 0 then 0 else if nat_lt g n then advance_at bytes hmtx (4 * g) 4 else advance_at bytes hmtx (4 * (n - 1)) 2

-- the bearing at a place, or else 0
abbrev pub bearing_at : List ℕ → Table → ℕ → ℤ
bearing_at bytes hmtx i = if nat_lt hmtx.size (i + 2) then pos 0 else s16_at bytes (hmtx.place + i)

-- the bearing of glyph g: the entries of the first n have it behind the advance, and those of the others stand behind them
abbrev pub bearing_in : List ℕ → Table → ℕ → ℕ → ℤ
bearing_in bytes hmtx n g = if nat_lt g n then bearing_at bytes hmtx (4 * g + 2) else bearing_at bytes hmtx (4 * n + 2 * (g - n))

abbrev pub advance_of : SfntFont → ℕ → ℕ
advance_of font g = entry_advance font.bytes font.tables.hmtx font.numbers.advances g

abbrev pub bearing_of : SfntFont → ℕ → ℤ
bearing_of font g = bearing_in font.bytes font.tables.hmtx font.numbers.advances g
