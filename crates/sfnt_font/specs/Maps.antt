-- Public: the map from characters to glyphs (`cmap`).
use Rattle.std.specs.Prelude.{◌≡◌, ℕ, zero, suc, ◌+◌, ◌-◌, ◌*◌, ◌/◌, ◌≤◌, max, Bool, ◌&&◌, ◌||◌, ◌==◌, nat_lt, nat_le, if◌then◌else◌, List, [], ◌∷◌, length, Result, Ok, Err}
use Rattle.ass_num.specs.Limits.{max_file_bytes}
use Rattle.sfnt_font.specs.declared.cause.SfntCause.TheVariants.{NoMap, BadMap}
use Rattle.sfnt_font.specs.declared.cause.SfntRefusal.{SfntRefusal}
use Rattle.sfnt_font.specs.declared.cause.SfntRefusal.TheVariants.{BadFont}
use Rattle.sfnt_font.specs.declared.directory.Table.{Table}
use Rattle.sfnt_font.specs.declared.maps.Choice.{Choice}
use Rattle.sfnt_font.specs.declared.maps.MapFormat.{MapFormat}
use Rattle.sfnt_font.specs.declared.maps.MapFormat.TheVariants.{Ranges, Groups}
use Rattle.sfnt_font.specs.declared.maps.CharacterMap.{CharacterMap}
use Rattle.sfnt_font.specs.declared.segments.Segment.{Segment}
use Rattle.sfnt_font.specs.Answers.{then_read}
use Rattle.font_bytes.specs.Bytes.{u16_at, u32_at}
use Rattle.sfnt_font.specs.Directory.{table_end}

-- the last code of a character
abbrev pub max_code : ℕ
max_code = 1114111

-- what a record whose map isn't read is ranked
abbrev pub no_rank : ℕ
no_rank = 9

-- the rank of a map of symbols
abbrev pub symbol_rank : ℕ
symbol_rank = 8

-- the rank of an encoding of platform 3, Windows; of equal platforms and encodings the first record counts
abbrev pub windows_rank : ℕ → ℕ
windows_rank encoding =
    if encoding == 10 then 0 else if encoding == 1 then 3 else if encoding == 0 then symbol_rank else no_rank

-- the rank of an encoding of platform 0, Unicode
abbrev pub unicode_rank : ℕ → ℕ
unicode_rank encoding =
    if encoding == 6 then 1 else if encoding == 4 then 2 else if encoding == 3 then 4
    else if encoding == 2 then 5 else if encoding == 1 then 6 else if encoding == 0 then 7 else no_rank

-- which map is chosen: the one of the least rank
abbrev pub map_rank : ℕ → ℕ → ℕ
map_rank platform encoding =
    if platform == 3 then windows_rank encoding else if platform == 0 then unicode_rank encoding else no_rank

abbrev pub no_choice : Choice
no_choice = record { rank = no_rank; place = 0 }

-- whether a map begins in its table, and has a format that is read
abbrev pub is_read_map : List ℕ → Table → ℕ → Bool
is_read_map bytes cmap at = nat_le (at + 2) (table_end cmap) && ((u16_at bytes at == 4) || (u16_at bytes at == 12))

-- the map of the record at a place
abbrev pub choice_at : List ℕ → Table → ℕ → Choice
choice_at bytes cmap at =
    if is_read_map bytes cmap (cmap.place + u32_at bytes (at + 4))
    then record { rank = map_rank (u16_at bytes at) (u16_at bytes (at + 2)); place = cmap.place + u32_at bytes (at + 4) }
    else no_choice

abbrev pub better : Choice → Choice → Choice
better best next = if nat_lt next.rank best.rank then next else best

-- the first of the best among `best` and the maps of n records from `at` on
abbrev pub best_map : List ℕ → Table → ℕ → ℕ → Choice → Choice
best_map bytes cmap at zero best = best
best_map bytes cmap at (suc n) best = best_map bytes cmap (at + 8) n (better best (choice_at bytes cmap at))

abbrev pub unless_none : Table → Choice → Result Choice SfntRefusal
unless_none cmap best = if best.rank == no_rank then Err (BadFont cmap.place NoMap) else Ok best

-- the map that is chosen
abbrev pub chosen_map : List ℕ → Table → Result Choice SfntRefusal
chosen_map bytes cmap =
    if nat_lt (table_end cmap) (cmap.place + 4 + 8 * u16_at bytes (cmap.place + 2)) then Err (BadFont (cmap.place + 2) BadMap)
    else unless_none cmap (best_map bytes cmap (cmap.place + 4) (u16_at bytes (cmap.place + 2)) no_choice)

-- a map of format 12, of groups of 12 bytes
abbrev pub groups_of : List ℕ → Table → Choice → CharacterMap
groups_of bytes cmap choice = record { format = Groups; place = choice.place; end = table_end cmap; count = u32_at bytes (choice.place + 12); is_symbol = choice.rank == symbol_rank }

abbrev pub groups_map : List ℕ → Table → Choice → Result CharacterMap SfntRefusal
groups_map bytes cmap choice =
    if nat_lt (table_end cmap) (choice.place + 16) then Err (BadFont choice.place BadMap)
    else if nat_lt (table_end cmap) (choice.place + 16 + 12 * u32_at bytes (choice.place + 12)) then Err (BadFont (choice.place + 12) BadMap)
    else Ok (groups_of bytes cmap choice)

-- a map of format 4, of segments, of each of which 8 bytes stand in four lists
abbrev pub ranges_of : List ℕ → Table → Choice → CharacterMap
ranges_of bytes cmap choice = record { format = Ranges; place = choice.place; end = table_end cmap; count = u16_at bytes (choice.place + 6) / 2; is_symbol = choice.rank == symbol_rank }

abbrev pub ranges_map : List ℕ → Table → Choice → Result CharacterMap SfntRefusal
ranges_map bytes cmap choice =
    if nat_lt (table_end cmap) (choice.place + 14) then Err (BadFont choice.place BadMap)
    else if nat_lt (table_end cmap) (choice.place + 16 + 8 * (u16_at bytes (choice.place + 6) / 2)) then Err (BadFont (choice.place + 6) BadMap)
    else Ok (ranges_of bytes cmap choice)

abbrev pub whole_map : List ℕ → Table → Choice → Result CharacterMap SfntRefusal
whole_map bytes cmap choice =
    if u16_at bytes choice.place == 12 then groups_map bytes cmap choice else ranges_map bytes cmap choice

-- the map of a font
abbrev pub map_of : List ℕ → Table → Result CharacterMap SfntRefusal
map_of bytes cmap = then_read (chosen_map bytes cmap) (whole_map bytes cmap)

-- where the last and the first code of a segment stand, its shift, and the offset of its list
abbrev pub last_code_place : CharacterMap → ℕ → ℕ
last_code_place m k = m.place + 14 + 2 * k

abbrev pub first_code_place : CharacterMap → ℕ → ℕ
first_code_place m k = m.place + 16 + 2 * m.count + 2 * k

abbrev pub shift_place : CharacterMap → ℕ → ℕ
shift_place m k = m.place + 16 + 4 * m.count + 2 * k

abbrev pub offset_place : CharacterMap → ℕ → ℕ
offset_place m k = m.place + 16 + 6 * m.count + 2 * k

-- where a group stands
abbrev pub group_place : CharacterMap → ℕ → ℕ
group_place m k = m.place + 16 + 12 * k

-- the codes of group k, where the codes below `low` are those of the groups before, `before` in all
abbrev pub group_at : List ℕ → CharacterMap → ℕ → ℕ → ℕ → Result Segment SfntRefusal
group_at bytes m k low before =
    if nat_le low (u32_at bytes (group_place m k))
    && nat_le (u32_at bytes (group_place m k)) (u32_at bytes (group_place m k + 4))
    && nat_le (u32_at bytes (group_place m k + 4)) max_code
    then Ok (record { first = u32_at bytes (group_place m k); last = u32_at bytes (group_place m k + 4); before = before })
    else Err (BadFont (group_place m k) BadMap)

-- the codes of segment k likewise: those that no segment before has
abbrev pub range_at : List ℕ → CharacterMap → ℕ → ℕ → ℕ → Result Segment SfntRefusal
range_at bytes m k low before =
    if nat_lt (u16_at bytes (last_code_place m k)) low then Err (BadFont (last_code_place m k) BadMap)
    else if nat_lt (u16_at bytes (last_code_place m k)) (u16_at bytes (first_code_place m k)) then Err (BadFont (first_code_place m k) BadMap)
    else Ok (record { first = max (u16_at bytes (first_code_place m k)) low; last = u16_at bytes (last_code_place m k); before = before })

abbrev pub segment_in : MapFormat → List ℕ → CharacterMap → ℕ → ℕ → ℕ → Result Segment SfntRefusal
segment_in Groups = group_at
segment_in Ranges = range_at

abbrev pub segment_at : List ℕ → CharacterMap → ℕ → ℕ → ℕ → Result Segment SfntRefusal
segment_at bytes m k low before = segment_in m.format bytes m k low before

-- a list of segments with one in front of it
abbrev pub behind_segment : Segment → Result (List Segment) SfntRefusal → Result (List Segment) SfntRefusal
behind_segment segment segments = then_read segments (λ rest. Ok (segment ∷ rest))

-- how many codes lie before the segment behind this one
abbrev pub codes_to : Segment → ℕ
codes_to segment = segment.before + (segment.last + 1 - segment.first)

-- n segments from number k on
abbrev pub segments_from : List ℕ → CharacterMap → ℕ → ℕ → ℕ → ℕ → Result (List Segment) SfntRefusal
segments_from bytes m k zero low before = Ok []
segments_from bytes m k (suc n) low before =
    then_read (segment_at bytes m k low before) (λ segment. behind_segment segment (segments_from bytes m (k + 1) n (segment.last + 1) (codes_to segment)))

-- the segments of a map
abbrev pub segments_of : List ℕ → CharacterMap → Result (List Segment) SfntRefusal
segments_of bytes m = segments_from bytes m 0 m.count 0 0

-- A map whose places may be reckoned. This is a condition of calls.
abbrev pub IsSmallMap : CharacterMap → Type 0
IsSmallMap m = m.place + 16 + 8 * m.count ≤ max_file_bytes

-- The map's numbers lie in the file.
pub record IsMapIn (bytes : List ℕ) (m : CharacterMap) : Type 0 where
  pub whole : m.place + 16 + 8 * m.count ≤ length bytes
  pub within : m.end ≤ length bytes

-- The segment lies at or behind the code `low`, its codes ascend, and `before` codes lie before it.
pub record IsBehind (low count : ℕ) (segment : Segment) : Type 0 where
  pub behind : low ≤ segment.first
  pub ascends : segment.first ≤ segment.last
  pub most : segment.last ≤ max_code
  pub counted : segment.before ≡ count
