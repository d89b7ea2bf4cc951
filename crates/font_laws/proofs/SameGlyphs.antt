-- Files that agree on the tables of a font give each code the same glyph, and each glyph the same advance, bearing and
-- stretch of bytes.
use Rattle.std.proofs.Common.{◌≡◌, ℕ, suc, ◌+◌, ◌-◌, ◌*◌, ◌%◌, ◌<◌, ◌≤◌, List, [], ◌∷◌, length, min, Bool, true, false, cond, ◌&&◌, Option, Some, None, refl, ap, ◌∙◌, arith}
use Rattle.std.specs.Prelude.{nat_lt, nat_le, ◌==◌, IfSome}
use Rattle.std.proofs.lemmas.Bool.{ltb-false}
use Rattle.sfnt_font.specs.declared.directory.Table.{Table}
use Rattle.sfnt_font.specs.declared.font.SfntFont.{SfntFont}
use Rattle.sfnt_font.specs.declared.maps.CharacterMap.{CharacterMap}
use Rattle.sfnt_font.specs.declared.names.FontNames.{FontNames}
use Rattle.sfnt_font.specs.declared.maps.MapFormat.{MapFormat}
use Rattle.sfnt_font.specs.declared.maps.MapFormat.TheVariants.{Ranges, Groups}
use Rattle.sfnt_font.specs.declared.numbers.Numbers.{Numbers}
use Rattle.sfnt_font.specs.declared.segments.Segment.{Segment}
use Rattle.sfnt_glyphs.specs.declared.stretch.Stretch.{Stretch}
use Rattle.sfnt_font.specs.declared.tables.Outlines.{Outlines}
use Rattle.sfnt_font.specs.declared.tables.Outlines.TheVariants.{TrueTypeOutlines, PostScriptOutlines}
use Rattle.sfnt_font.specs.declared.tables.Tables.{Tables}
use Rattle.font_bytes.specs.Bytes.{u16_at, u32_at}
use Rattle.sfnt_font.specs.Directory.{table_end}
use Rattle.sfnt_font.specs.Maps.{group_place, first_code_place, shift_place, offset_place}
use Rattle.sfnt_font.specs.Fonts.{segment_from, segment_of, shifted_glyph, listed_glyph, glyph_by_offset, segment_glyph, held_glyph, glyph_or_none, mapped_glyph, is_symbol_code, glyph_number}
use Rattle.sfnt_glyphs.specs.Metrics.{advance_at, entry_advance, bearing_at, bearing_in}
use Rattle.sfnt_glyphs.specs.Glyphs.{wide_place, narrow_place, stretch_between, outline_stretch, glyph_stretch}
use Rattle.font_laws.specs.Laws.{AgreeOnTable}
use Rattle.font_laws.proofs.Agreed.{u16_same, u32_same, s16_same, if_same}
use Rattle.font_laws.proofs.SameTables.{AgreeOnOutlines, AgreeOnTables}
use Rattle.font_laws.proofs.SameMaps.{IsMapOf, entry_bytes}

-- a font that keeps these bytes
abbrev pub font_keeping : List ℕ → Tables → Numbers → CharacterMap → List Segment → FontNames → SfntFont
font_keeping bytes tables numbers m segments names = record { bytes = bytes; tables = tables; numbers = numbers; character_map = m; segments = segments; names = names }

-- ---- the glyph of a code

segment_below : (segments : List Segment) (k code : ℕ) → IfSome (segment_from k code segments) (λ j. j < k + length segments)
segment_below [] k code = tt
segment_below (segment ∷ segments) k code = either (nat_le segment.first code && nat_le code segment.last) (segment_from (k + 1) code segments) (segment_below segments (k + 1) code)
  where
    either : (c : Bool) (o : Option ℕ) → IfSome o (λ j. j < (k + 1) + length segments) → IfSome (cond c (Some k) o) (λ j. j < k + suc (length segments))
    either true o h = omega arith
    either false None h = tt
    either false (Some j) h = omega arith

segment_listed : (segments : List Segment) (code : ℕ) → IfSome (segment_of segments code) (λ k. k < length segments)
segment_listed segments code = counted (segment_of segments code) (segment_below segments 0 code)
  where
    counted : (o : Option ℕ) → IfSome o (λ k. k < 0 + length segments) → IfSome o (λ k. k < length segments)
    counted None h = tt
    counted (Some k) h = omega arith

listed_glyph_same : (a b : List ℕ) (cmap : Table) (m : CharacterMap) (shift at : ℕ) → AgreeOnTable a b cmap → m.end ≡ table_end cmap → cmap.place ≤ at → listed_glyph a m shift at ≡ listed_glyph b m shift at
listed_glyph_same a b cmap m shift at h ends low =
    if_same (nat_lt m.end (at + 2)) (nat_lt m.end (at + 2)) refl (λ _. refl) (λ fits.
    let room : at + 2 ≤ m.end = ltb-false m.end (at + 2) fits in
    ap (shifted_glyph shift) (u16_same a b cmap.place (table_end cmap) at h low (omega (arith, room, ends))))

offset_same : (a b : List ℕ) (cmap : Table) (m : CharacterMap) (k code offset : ℕ) → AgreeOnTable a b cmap → cmap.place ≤ m.place → m.end ≡ table_end cmap →
    u16_at a (shift_place m k) ≡ u16_at b (shift_place m k) → u16_at a (first_code_place m k) ≡ u16_at b (first_code_place m k) → glyph_by_offset a m k code offset ≡ glyph_by_offset b m k code offset
offset_same a b cmap m k code offset h low ends shift first =
    if_same (offset == 0) (offset == 0) refl (λ _. ap (λ n. (code + n) % 65536) shift) (λ _.
    if_same (offset == 65535) (offset == 65535) refl (λ _. refl) (λ _.
    listed_glyph_same a b cmap m (u16_at a (shift_place m k)) (offset_place m k + offset + 2 * (code - u16_at a (first_code_place m k))) h ends (omega arith)
    ∙ (ap (λ n. listed_glyph b m n (offset_place m k + offset + 2 * (code - u16_at a (first_code_place m k)))) shift
    ∙ ap (λ n. listed_glyph b m (u16_at b (shift_place m k)) (offset_place m k + offset + 2 * (code - n))) first)))

segment_glyph_same : (format : MapFormat) (a b : List ℕ) (cmap : Table) (m : CharacterMap) (k code : ℕ) → AgreeOnTable a b cmap → cmap.place ≤ m.place → m.end ≡ table_end cmap →
    m.place + 16 + entry_bytes format * m.count ≤ table_end cmap → k < m.count → segment_glyph format a m k code ≡ segment_glyph format b m k code
segment_glyph_same Groups a b cmap m k code h low ends whole less =
    let room : m.place + 16 + 12 * m.count ≤ table_end cmap = whole in
    let glyph : u32_at a (group_place m k + 8) ≡ u32_at b (group_place m k + 8) = u32_same a b cmap.place (table_end cmap) (group_place m k + 8) h (omega arith) (omega (arith, room)) in
    let first : u32_at a (group_place m k) ≡ u32_at b (group_place m k) = u32_same a b cmap.place (table_end cmap) (group_place m k) h (omega arith) (omega (arith, room)) in
    ap (λ n. n + (code - u32_at a (group_place m k))) glyph ∙ ap (λ n. u32_at b (group_place m k + 8) + (code - n)) first
segment_glyph_same Ranges a b cmap m k code h low ends whole less =
    let room : m.place + 16 + 8 * m.count ≤ table_end cmap = whole in
    let offset : u16_at a (offset_place m k) ≡ u16_at b (offset_place m k) = u16_same a b cmap.place (table_end cmap) (offset_place m k) h (omega arith) (omega (arith, room)) in
    let shift : u16_at a (shift_place m k) ≡ u16_at b (shift_place m k) = u16_same a b cmap.place (table_end cmap) (shift_place m k) h (omega arith) (omega (arith, room)) in
    let first : u16_at a (first_code_place m k) ≡ u16_at b (first_code_place m k) = u16_same a b cmap.place (table_end cmap) (first_code_place m k) h (omega arith) (omega (arith, room)) in
    offset_same a b cmap m k code (u16_at a (offset_place m k)) h low ends shift first ∙ ap (glyph_by_offset b m k code) offset

-- what two fonts share that keep these bytes
pub record ShareTables (a b : List ℕ) (tables : Tables) (m : CharacterMap) (segments : List Segment) : Type 0 where
  pub agree : AgreeOnTables a b tables
  pub is_map : IsMapOf tables.cmap m
  pub counted : length segments ≡ m.count

or_none_same : (a b : List ℕ) (tables : Tables) (numbers : Numbers) (m : CharacterMap) (segments : List Segment) (names : FontNames) (code : ℕ) (o : Option ℕ) → ShareTables a b tables m segments →
    IfSome o (λ k. k < length segments) → glyph_or_none (font_keeping a tables numbers m segments names) code o ≡ glyph_or_none (font_keeping b tables numbers m segments names) code o
or_none_same a b tables numbers m segments names code None h less = refl
or_none_same a b tables numbers m segments names code (Some k) h less =
    let count = h.counted in
    ap (held_glyph numbers.glyphs) (segment_glyph_same m.format a b tables.cmap m k code h.agree.cmap.0 h.is_map.0 h.is_map.1.0 h.is_map.1.1 (omega (arith, count, less)))

mapped_same : (a b : List ℕ) (tables : Tables) (numbers : Numbers) (m : CharacterMap) (segments : List Segment) (names : FontNames) (code : ℕ) → ShareTables a b tables m segments →
    mapped_glyph (font_keeping a tables numbers m segments names) code ≡ mapped_glyph (font_keeping b tables numbers m segments names) code
mapped_same a b tables numbers m segments names code h = or_none_same a b tables numbers m segments names code (segment_of segments code) h (segment_listed segments code)

pub glyphs_same : (a b : List ℕ) (tables : Tables) (numbers : Numbers) (m : CharacterMap) (segments : List Segment) (names : FontNames) (code : ℕ) → ShareTables a b tables m segments →
    glyph_number (font_keeping a tables numbers m segments names) code ≡ glyph_number (font_keeping b tables numbers m segments names) code
glyphs_same a b tables numbers m segments names code h =
    let f = font_keeping a tables numbers m segments names in
    let g = font_keeping b tables numbers m segments names in
    ap (λ n. cond ((n == 0) && is_symbol_code f code) (mapped_glyph f (61440 + code)) n) (mapped_same a b tables numbers m segments names code h)
    ∙ ap (λ n. cond ((mapped_glyph g code == 0) && is_symbol_code g code) n (mapped_glyph g code)) (mapped_same a b tables numbers m segments names (61440 + code) h)

-- ---- advances and bearings

advance_at_same : (a b : List ℕ) (hmtx : Table) (i least : ℕ) → AgreeOnTable a b hmtx → 2 ≤ least → advance_at a hmtx i least ≡ advance_at b hmtx i least
advance_at_same a b hmtx i least h two =
    if_same (nat_lt hmtx.size (i + least)) (nat_lt hmtx.size (i + least)) refl (λ _. refl) (λ fits.
    let room : i + least ≤ hmtx.size = ltb-false hmtx.size (i + least) fits in
    u16_same a b hmtx.place (table_end hmtx) (hmtx.place + i) h (omega arith) (omega (arith, room)))

pub advance_same : (a b : List ℕ) (hmtx : Table) (n g : ℕ) → AgreeOnTable a b hmtx → entry_advance a hmtx n g ≡ entry_advance b hmtx n g
advance_same a b hmtx n g h =
    if_same (n == 0) (n == 0) refl (λ _. refl) (λ _.
    if_same (nat_lt g n) (nat_lt g n) refl (λ _. advance_at_same a b hmtx (4 * g) 4 h (omega arith)) (λ _. advance_at_same a b hmtx (4 * (n - 1)) 2 h (omega arith)))

bearing_at_same : (a b : List ℕ) (hmtx : Table) (i : ℕ) → AgreeOnTable a b hmtx → bearing_at a hmtx i ≡ bearing_at b hmtx i
bearing_at_same a b hmtx i h =
    if_same (nat_lt hmtx.size (i + 2)) (nat_lt hmtx.size (i + 2)) refl (λ _. refl) (λ fits.
    let room : i + 2 ≤ hmtx.size = ltb-false hmtx.size (i + 2) fits in
    s16_same a b hmtx.place (table_end hmtx) (hmtx.place + i) h (omega arith) (omega (arith, room)))

pub bearing_same : (a b : List ℕ) (hmtx : Table) (n g : ℕ) → AgreeOnTable a b hmtx → bearing_in a hmtx n g ≡ bearing_in b hmtx n g
bearing_same a b hmtx n g h =
    if_same (nat_lt g n) (nat_lt g n) refl (λ _. bearing_at_same a b hmtx (4 * g + 2) h) (λ _. bearing_at_same a b hmtx (4 * n + 2 * (g - n)) h)

-- ---- where the bytes of a glyph are

wide_place_same : (a b : List ℕ) (loca : Table) (g : ℕ) → AgreeOnTable a b loca → wide_place a loca g ≡ wide_place b loca g
wide_place_same a b loca g h =
    if_same (nat_lt loca.size (4 * g + 4)) (nat_lt loca.size (4 * g + 4)) refl (λ _. refl) (λ fits.
    let room : 4 * g + 4 ≤ loca.size = ltb-false loca.size (4 * g + 4) fits in
    ap Some (u32_same a b loca.place (table_end loca) (loca.place + 4 * g) h (omega arith) (omega (arith, room))))

narrow_place_same : (a b : List ℕ) (loca : Table) (g : ℕ) → AgreeOnTable a b loca → narrow_place a loca g ≡ narrow_place b loca g
narrow_place_same a b loca g h =
    if_same (nat_lt loca.size (2 * g + 2)) (nat_lt loca.size (2 * g + 2)) refl (λ _. refl) (λ fits.
    let room : 2 * g + 2 ≤ loca.size = ltb-false loca.size (2 * g + 2) fits in
    ap (λ n. Some (2 * n)) (u16_same a b loca.place (table_end loca) (loca.place + 2 * g) h (omega arith) (omega (arith, room))))

place_in_same : (a b : List ℕ) (loca : Table) (wide : Bool) (g : ℕ) → AgreeOnTable a b loca → cond wide (wide_place a loca g) (narrow_place a loca g) ≡ cond wide (wide_place b loca g) (narrow_place b loca g)
place_in_same a b loca true g h = wide_place_same a b loca g h
place_in_same a b loca false g h = narrow_place_same a b loca g h

stretch_by_same : (a b : List ℕ) (tables : Tables) (numbers : Numbers) (m : CharacterMap) (segments : List Segment) (names : FontNames) (g : ℕ) (outlines : Outlines) → AgreeOnOutlines a b outlines →
    outline_stretch (font_keeping a tables numbers m segments names) outlines g ≡ outline_stretch (font_keeping b tables numbers m segments names) outlines g
stretch_by_same a b tables numbers m segments names g (TrueTypeOutlines loca glyf) h =
    ap (λ o. stretch_between glyf o (cond numbers.wide_places (wide_place a loca (g + 1)) (narrow_place a loca (g + 1)))) (place_in_same a b loca numbers.wide_places g h.0.0)
    ∙ ap (stretch_between glyf (cond numbers.wide_places (wide_place b loca g) (narrow_place b loca g))) (place_in_same a b loca numbers.wide_places (g + 1) h.0.0)
stretch_by_same a b tables numbers m segments names g (PostScriptOutlines cff) h = refl

pub stretch_same : (a b : List ℕ) (tables : Tables) (numbers : Numbers) (m : CharacterMap) (segments : List Segment) (names : FontNames) (g : ℕ) → AgreeOnTables a b tables →
    glyph_stretch (font_keeping a tables numbers m segments names) g ≡ glyph_stretch (font_keeping b tables numbers m segments names) g
stretch_same a b tables numbers m segments names g h = stretch_by_same a b tables numbers m segments names g tables.outlines h.outlines

-- A stretch that lies in a table.
abbrev pub IsStretchOf : Table → Stretch → Type 0
IsStretchOf glyf stretch = (glyf.place ≤ stretch.from) × (stretch.to ≤ table_end glyf)

held_in : (glyf : Table) (from to : ℕ) (c : Bool) → to ≤ glyf.size → IfSome (cond c (Some (record { from = glyf.place + from; to = glyf.place + to })) None) (IsStretchOf glyf)
held_in glyf from to true most = (omega arith, omega arith)
held_in glyf from to false most = tt

pub stretch_in : (glyf : Table) (o p : Option ℕ) → IfSome (stretch_between glyf o p) (IsStretchOf glyf)
stretch_in glyf (Some from) (Some to) = held_in glyf (min from glyf.size) (min to glyf.size) (nat_lt (min from glyf.size) (min to glyf.size)) (omega arith)
stretch_in glyf (Some from) None = tt
stretch_in glyf None p = tt
