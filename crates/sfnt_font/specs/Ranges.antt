-- Public: what holds of each font.
use Rattle.std.specs.Prelude.{◌≡◌, ℕ, ◌+◌, ◌<◌, ◌≤◌, Bool, true, ◌&&◌, ◌==◌, nat_le, List, [], ◌∷◌, length}
use Rattle.ass_num.specs.Limits.{max_file_bytes}
use Rattle.sfnt_font.specs.declared.font.SfntFont.{SfntFont}
use Rattle.sfnt_font.specs.declared.segments.Segment.{Segment}
use Rattle.font_bytes.specs.Bytes.{u8_at}
use Rattle.sfnt_font.specs.Directory.{AreTablesIn}
use Rattle.sfnt_font.specs.Numbers.{AreFontNumbers}
use Rattle.sfnt_font.specs.Maps.{IsMapIn, max_code, codes_to}

-- whether the codes of a segment ascend from `low` on, with `count` codes before them
abbrev pub stands_behind : ℕ → ℕ → Segment → Bool
stands_behind low count segment =
    nat_le low segment.first && (nat_le segment.first segment.last && (nat_le segment.last max_code && (segment.before == count)))

-- whether the codes of segments ascend from `low` on, with `count` codes before the first
abbrev pub are_in_order : ℕ → ℕ → List Segment → Bool
are_in_order low count [] = true
are_in_order low count (segment ∷ segments) = stands_behind low count segment && are_in_order (segment.last + 1) (codes_to segment) segments

-- The tables and the map of a font lie in its bytes, its numbers are in their ranges, and its segments ascend.
pub record IsSfntFont (font : SfntFont) : Type 0 where
  pub short : length font.bytes ≤ max_file_bytes
  pub bytes_fit : (i : ℕ) → u8_at font.bytes i < 256
  pub tables_in : AreTablesIn font.bytes font.tables
  pub numbers : AreFontNumbers font.numbers
  pub map_in : IsMapIn font.bytes font.character_map
  pub in_order : are_in_order 0 0 font.segments ≡ true
  pub counted : length font.segments ≡ font.character_map.count
