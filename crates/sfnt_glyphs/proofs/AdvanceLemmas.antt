-- How wide a glyph may be.
use Rattle.std.proofs.Common.{ℕ, ◌+◌, ◌-◌, ◌*◌, ◌<◌, ◌≤◌, List, Bool, true, false, cond, arith}
use Rattle.std.specs.Prelude.{◌==◌, nat_lt}
use Rattle.sfnt_font.specs.declared.directory.Table.{Table}
use Rattle.sfnt_font.specs.declared.font.SfntFont.{SfntFont}
use Rattle.font_bytes.specs.Bytes.{u8_at, u16_at}
use Rattle.sfnt_font.specs.Ranges.{IsSfntFont}
use Rattle.sfnt_font.proofs.RangeLemmas.{u16_at-most}
use Rattle.sfnt_glyphs.specs.Metrics.{advance_at, advance_of}

either-most : (b : Bool) (x y most : ℕ) → x ≤ most → y ≤ most → cond b x y ≤ most
either-most true x y most h k = h
either-most false x y most h k = k

advance_at-most : (bytes : List ℕ) → ((i : ℕ) → u8_at bytes i < 256) → (hmtx : Table) (i least : ℕ) → advance_at bytes hmtx i least ≤ 65535
advance_at-most bytes fits hmtx i least = either-most (nat_lt hmtx.size (i + least)) 0 (u16_at bytes (hmtx.place + i)) 65535 (omega arith) (u16_at-most bytes fits (hmtx.place + i))

pub advance_most : (font : SfntFont) (g : ℕ) → IsSfntFont font → advance_of font g ≤ 65535
advance_most font g is =
    let bytes = font.bytes in
    let hmtx = font.tables.hmtx in
    let n = font.numbers.advances in
    let first = advance_at-most bytes is.bytes_fit hmtx (4 * g) 4 in
    let last = advance_at-most bytes is.bytes_fit hmtx (4 * (n - 1)) 2 in
    either-most (n == 0) 0 _ 65535 (omega arith) (either-most (nat_lt g n) (advance_at bytes hmtx (4 * g) 4) (advance_at bytes hmtx (4 * (n - 1)) 2) 65535 first last)
