-- Public: the contours of a font's glyphs. They are a total function of its bytes: a broken glyph has none.
use Rattle.std.specs.Prelude.{ℕ, zero, suc, ◌+◌, ◌-◌, ◌*◌, ◌≤◌, min, Bool, ◌&&◌, not, ◌==◌, nat_lt, bit_and, if◌then◌else◌, List, [], ◌∷◌, ◌++◌, length, take, drop, slice_index, slice_index_or, Option, Some, None, is_none, option_and_then, ℤ, pos, ◌+ℤ◌, ◌-ℤ◌, ◌*ℤ◌, neg_ℤ, int_le}
use Rattle.ass_num.specs.Floor.{floor_div}
use Rattle.ass_num.specs.Limits.{max_file_bytes}
use Rattle.outline_points.specs.Limits.{max_unit}
use Rattle.outline_points.specs.declared.glyph_point.GlyphPoint.{GlyphPoint}
use Rattle.sfnt_font.specs.declared.directory.Table.{Table}
use Rattle.sfnt_font.specs.declared.tables.Outlines.{Outlines}
use Rattle.sfnt_font.specs.declared.tables.Outlines.TheVariants.{TrueTypeOutlines, PostScriptOutlines}
use Rattle.sfnt_glyphs.specs.declared.stretch.Stretch.{Stretch}
use Rattle.sfnt_glyphs.specs.declared.simple.SizeRun.{SizeRun}
use Rattle.sfnt_glyphs.specs.declared.simple.FlagRun.{FlagRun}
use Rattle.sfnt_glyphs.specs.declared.simple.Coordinate.{Coordinate}
use Rattle.sfnt_glyphs.specs.declared.points.Placing.{Placing}
use Rattle.sfnt_glyphs.specs.declared.parts.Part.{Part}
use Rattle.sfnt_glyphs.specs.declared.drawn.Room.{Room}
use Rattle.sfnt_glyphs.specs.declared.drawn.Drawn.{Drawn}
use Rattle.font_bytes.specs.Bytes.{u8_at, u16_at, u32_at, s16_at, s8_at}
use Rattle.sfnt_font.specs.declared.font.SfntFont.{SfntFont}
use Rattle.sfnt_glyphs.specs.Metrics.{bearing_of}

-- the most points and parts of a glyph, and how deep parts may go
abbrev pub max_points : ℕ
max_points = 16384

abbrev pub max_parts : ℕ
max_parts = 256

abbrev pub max_depth : ℕ
max_depth = 8

-- Where the numbers of a glyph may be read. This is a condition of calls; no file has so many bytes.
abbrev pub last_place : ℕ
last_place = 1073741824

-- ---- where the bytes of a glyph are

-- the place of glyph g in `glyf`
abbrev pub wide_place : List ℕ → Table → ℕ → Option ℕ
wide_place bytes loca g = if nat_lt loca.size (4 * g + 4) then None else Some (u32_at bytes (loca.place + 4 * g))

abbrev pub narrow_place : List ℕ → Table → ℕ → Option ℕ
narrow_place bytes loca g = if nat_lt loca.size (2 * g + 2) then None else Some (2 * u16_at bytes (loca.place + 2 * g))

abbrev pub glyph_place : SfntFont → Table → ℕ → Option ℕ
glyph_place font loca g = if font.numbers.wide_places then wide_place font.bytes loca g else narrow_place font.bytes loca g

-- what lies between two places of a table, both held at its size
abbrev pub held_stretch : Table → ℕ → ℕ → Option Stretch
held_stretch glyf from to = if nat_lt from to then Some (record { from = glyf.place + from; to = glyf.place + to }) else None

abbrev pub stretch_between : Table → Option ℕ → Option ℕ → Option Stretch
stretch_between glyf (Some from) (Some to) = held_stretch glyf (min from glyf.size) (min to glyf.size)
stretch_between glyf from to = None

-- bytes of a file
pub record IsStretch (stretch : Stretch) : Type 0 where
  pub ascends : stretch.from ≤ stretch.to
  pub within : stretch.to ≤ max_file_bytes

-- the bytes of glyph g in `glyf`; a font with PostScript outlines has none there
abbrev pub outline_stretch : SfntFont → Outlines → ℕ → Option Stretch
outline_stretch font (TrueTypeOutlines loca glyf) g = stretch_between glyf (glyph_place font loca g) (glyph_place font loca (g + 1))
outline_stretch font (PostScriptOutlines cff) g = None

abbrev pub glyph_stretch : SfntFont → ℕ → Option Stretch
glyph_stretch font g = outline_stretch font font.tables.outlines g

-- whether a glyph has no bytes
abbrev pub is_blank_glyph : SfntFont → ℕ → Bool
is_blank_glyph font g = is_none (glyph_stretch font g)

-- ---- items read one after another

-- The items of n steps from number k on, behind those there are; a step finds the next state, or nothing where the
-- glyph is broken.
abbrev pub collected : {S B : Type 0} → (ℕ → S → Option S) → (ℕ → S → B) → ℕ → ℕ → S → List B → Option (S × List B)
collected step item k zero s items = Some (s, items)
collected step item k (suc n) s items = option_and_then (λ t. collected step item (k + 1) n t (items ++ item k t ∷ [])) (step k s)

-- whether a flag is set
abbrev pub has_flag : ℕ → ℕ → Bool
has_flag flags flag = not (bit_and flags flag == 0)

-- ---- simple glyphs

-- how many points contour k has, where the contours before it have `behind`
abbrev pub next_size : List ℕ → ℕ → ℕ → SizeRun → Option SizeRun
next_size bytes at k s =
    if nat_lt (u16_at bytes (at + 2 * k)) s.behind then None
    else Some (record { size = u16_at bytes (at + 2 * k) + 1 - s.behind; behind = u16_at bytes (at + 2 * k) + 1 })

abbrev pub size_of_run : ℕ → SizeRun → ℕ
size_of_run k s = s.size

abbrev pub no_size : SizeRun
no_size = record { size = 0; behind = 0 }

-- the sizes of n contours
abbrev pub sizes_at : List ℕ → ℕ → ℕ → Option (SizeRun × List ℕ)
sizes_at bytes at n = collected (next_size bytes at) size_of_run 0 n no_size []

-- a flag that stands at a place, and how often it is repeated
abbrev pub read_flag : List ℕ → ℕ → ℕ → ℕ → Option FlagRun
read_flag bytes stop at flag =
    if has_flag flag 8
    then (if nat_lt stop (at + 2) then None else Some (record { at = at + 2; flag = flag; again = u8_at bytes (at + 1) }))
    else Some (record { at = at + 1; flag = flag; again = 0 })

-- the flag of the next point
abbrev pub next_flag : List ℕ → ℕ → FlagRun → Option FlagRun
next_flag bytes stop run =
    if not (run.again == 0) then Some (record { at = run.at; flag = run.flag; again = run.again - 1 })
    else if nat_lt stop (run.at + 1) then None
    else read_flag bytes stop run.at (u8_at bytes run.at)

abbrev pub flag_step : List ℕ → ℕ → ℕ → FlagRun → Option FlagRun
flag_step bytes stop k run = next_flag bytes stop run

abbrev pub flag_in : ℕ → FlagRun → ℕ
flag_in k run = run.flag

-- before the first flag, which stands at a place
abbrev pub no_flag : ℕ → FlagRun
no_flag at = record { at = at; flag = 0; again = 0 }

-- a flag isn't repeated past the last point
abbrev pub flags_end : FlagRun × List ℕ → Option (ℕ × List ℕ)
flags_end read = if read.0.again == 0 then Some (read.0.at, read.1) else None

abbrev pub flags_at : List ℕ → ℕ → ℕ → ℕ → Option (ℕ × List ℕ)
flags_at bytes stop at n = option_and_then flags_end (collected (flag_step bytes stop) flag_in 0 n (no_flag at) [])

-- a coordinate that isn't too far from 0
abbrev pub held_unit : ℤ → Option ℤ
held_unit z = if int_le (neg_ℤ (pos max_unit)) z && int_le z (pos max_unit) then Some z else None

abbrev pub coordinate_at : ℕ → ℤ → Option Coordinate
coordinate_at at value = option_and_then (λ held. Some (record { at = at; value = held })) (held_unit value)

-- the step to the next point by a byte, or by two
abbrev pub short_step : List ℕ → ℕ → Bool → Coordinate → Option Coordinate
short_step bytes stop is_up c =
    if nat_lt stop (c.at + 1) then None
    else coordinate_at (c.at + 1) (if is_up then (c.value +ℤ pos (u8_at bytes c.at)) else (c.value -ℤ pos (u8_at bytes c.at)))

abbrev pub long_step : List ℕ → ℕ → Coordinate → Option Coordinate
long_step bytes stop c = if nat_lt stop (c.at + 2) then None else coordinate_at (c.at + 2) (c.value +ℤ s16_at bytes c.at)

-- the coordinate of the next point, whose flag says by `short` and `same` how it is written
abbrev pub next_coordinate : List ℕ → ℕ → ℕ → ℕ → ℕ → Coordinate → Option Coordinate
next_coordinate bytes stop short same flag c =
    if has_flag flag short then short_step bytes stop (has_flag flag same) c
    else if has_flag flag same then Some c
    else long_step bytes stop c

abbrev pub coordinate_step : List ℕ → ℕ → ℕ → ℕ → List ℕ → ℕ → Coordinate → Option Coordinate
coordinate_step bytes stop short same flags k c = next_coordinate bytes stop short same (slice_index flags k) c

abbrev pub value_in : ℕ → Coordinate → ℤ
value_in k c = c.value

abbrev pub point_in : List ℕ → List ℤ → ℕ → Coordinate → GlyphPoint
point_in flags xs k c = record { x = slice_index_or xs k (pos 0); y = c.value; is_on = has_flag (slice_index flags k) 1 }

-- before the first coordinate, which stands at a place
abbrev pub no_coordinate : ℕ → Coordinate
no_coordinate at = record { at = at; value = pos 0 }

-- the first coordinates of the points that have these flags
abbrev pub written_xs : List ℕ → ℕ → List ℕ → ℕ → Option (Coordinate × List ℤ)
written_xs bytes stop flags at = collected (coordinate_step bytes stop 2 16 flags) value_in 0 (length flags) (no_coordinate at) []

-- the points, whose first coordinates are read
abbrev pub written_points : List ℕ → ℕ → List ℕ → List ℤ → ℕ → Option (Coordinate × List GlyphPoint)
written_points bytes stop flags xs at = collected (coordinate_step bytes stop 4 32 flags) (point_in flags xs) 0 (length flags) (no_coordinate at) []

-- a glyph without contours
abbrev pub no_points : ℤ → Room → Drawn
no_points shift room = record { sizes = []; points = []; shift = shift; room = room }

abbrev pub points_only : Coordinate × List GlyphPoint → Option (List GlyphPoint)
points_only read = Some read.1

-- the points that have these flags, and these first coordinates, which end at the second ones
abbrev pub points_with : List ℕ → ℕ → List ℕ → Coordinate × List ℤ → Option (List GlyphPoint)
points_with bytes stop flags read = option_and_then points_only (written_points bytes stop flags read.1 read.0.at)

-- the points that have these flags, which end at the first coordinates
abbrev pub flagged_points : List ℕ → ℕ → ℕ × List ℕ → Option (List GlyphPoint)
flagged_points bytes stop read = option_and_then (points_with bytes stop read.1) (written_xs bytes stop read.1 read.0)

-- the n points whose flags begin at a place
abbrev pub points_behind : List ℕ → ℕ → ℕ → ℕ → Option (List GlyphPoint)
points_behind bytes stop n at = option_and_then (flagged_points bytes stop) (flags_at bytes stop at n)

-- the contours of a simple glyph, of which these are the sizes, and whose points begin at `at`
abbrev pub simple_points : List ℕ → ℕ → ℕ → List ℕ → ℕ → ℤ → Room → Option Drawn
simple_points bytes stop n sizes at shift room =
    if nat_lt max_points (room.points + n) then None
    else option_and_then (λ points. Some (record { sizes = sizes; points = points; shift = shift; room = record { points = room.points + n; parts = room.parts } }))
    (points_behind bytes stop n (at + 2 + u16_at bytes at))

abbrev pub sized_points : List ℕ → ℕ → ℕ → ℤ → Room → SizeRun × List ℕ → Option Drawn
sized_points bytes stop at shift room read = simple_points bytes stop read.0.behind read.1 at shift room

-- a simple glyph of n contours, whose last points stand from `at` on
abbrev pub simple_glyph : List ℕ → ℕ → ℕ → ℕ → ℤ → Room → Option Drawn
simple_glyph bytes stop at n shift room =
    if n == 0 then Some (no_points shift room)
    else if nat_lt stop (at + 2 * n + 2) then None
    else option_and_then (sized_points bytes stop (at + 2 * n) shift room) (sizes_at bytes at n)

-- ---- glyphs of parts

-- the whole number that is nearest to a number in 1/16,384
abbrev pub nearest_unit : ℤ → ℤ
nearest_unit sum = floor_div (sum +ℤ pos 8192) (pos 16384)

-- a coordinate of a point of a part: both coordinates of the point in 1/16,384, and then a shift
abbrev pub placed_coordinate : ℤ → ℤ → ℤ → ℤ → ℤ → ℤ
placed_coordinate x y a c shift = nearest_unit ((x *ℤ a) +ℤ (y *ℤ c)) +ℤ shift

-- the point in its place, or nothing where it is too far from 0
abbrev pub placed_x : Placing → GlyphPoint → ℤ
placed_x placing p = placed_coordinate p.x p.y placing.a placing.c placing.dx

abbrev pub placed_y : Placing → GlyphPoint → ℤ
placed_y placing p = placed_coordinate p.x p.y placing.b placing.d placing.dy

abbrev pub point_if : Option ℤ → Option ℤ → Bool → Option GlyphPoint
point_if (Some x) (Some y) is_on = Some (record { x = x; y = y; is_on = is_on })
point_if x y is_on = None

abbrev pub placed_glyph_point : Placing → GlyphPoint → Option GlyphPoint
placed_glyph_point placing p = point_if (held_unit (placed_x placing p)) (held_unit (placed_y placing p)) p.is_on

-- points in their places, behind others, or none where one is too far from 0
abbrev pub placed_points : Placing → List GlyphPoint → List GlyphPoint → Option (List GlyphPoint)
placed_points placing [] front = Some front
placed_points placing (p ∷ points) front = option_and_then (λ q. placed_points placing points (front ++ q ∷ [])) (placed_glyph_point placing p)

-- how many bytes a part's shift and its scale have
abbrev pub shift_size : ℕ → ℕ
shift_size flags = if has_flag flags 1 then 4 else 2

abbrev pub scale_size : ℕ → ℕ
scale_size flags = if has_flag flags 8 then 2 else if has_flag flags 64 then 4 else if has_flag flags 128 then 8 else 0

-- the place of a part whose shift stands at `at` and its scale at `scale`
abbrev pub placing_by : List ℕ → ℕ → ℕ → ℤ → ℤ → Placing
placing_by bytes flags scale dx dy =
    if has_flag flags 8 then record { a = s16_at bytes scale; b = pos 0; c = pos 0; d = s16_at bytes scale; dx = dx; dy = dy }
    else if has_flag flags 64 then record { a = s16_at bytes scale; b = pos 0; c = pos 0; d = s16_at bytes (scale + 2); dx = dx; dy = dy }
    else if has_flag flags 128 then record { a = s16_at bytes scale; b = s16_at bytes (scale + 2); c = s16_at bytes (scale + 4); d = s16_at bytes (scale + 6); dx = dx; dy = dy }
    else record { a = pos 16384; b = pos 0; c = pos 0; d = pos 16384; dx = dx; dy = dy }

abbrev pub placing_at : List ℕ → ℕ → ℕ → Placing
placing_at bytes flags at =
    if has_flag flags 1 then placing_by bytes flags (at + 4) (s16_at bytes at) (s16_at bytes (at + 2))
    else placing_by bytes flags (at + 2) (s8_at bytes at) (s8_at bytes (at + 1))

-- the part at a place, whose flags these are; one that is laid by numbers of points isn't read
abbrev pub flagged_part : List ℕ → ℕ → ℕ → ℕ → Option Part
flagged_part bytes stop at flags =
    if nat_lt stop (at + 4 + shift_size flags + scale_size flags) then None
    else if not (has_flag flags 2) then None
    else Some (record {
      glyph = u16_at bytes (at + 2);
      placing = placing_at bytes flags (at + 4);
      is_own_shift = has_flag flags 512;
      is_followed = has_flag flags 32;
      behind = at + 4 + shift_size flags + scale_size flags;
    })

abbrev pub part_at : List ℕ → ℕ → ℕ → Option Part
part_at bytes stop at = flagged_part bytes stop at (u16_at bytes at)

-- the room with one part more
abbrev pub room_for_part : Room → Option Room
room_for_part room = if nat_lt room.parts max_parts then Some (record { points = room.points; parts = room.parts + 1 }) else None

-- a glyph with a part more, which was drawn
abbrev pub joined_part : Part → Drawn → Drawn → Option Drawn
joined_part part front drawn =
    option_and_then (λ points. Some (record {
      sizes = front.sizes ++ drawn.sizes;
      points = points;
      shift = if part.is_own_shift then drawn.shift else front.shift;
      room = drawn.room;
    })) (placed_points part.placing drawn.points front.points)

-- a glyph with the part at a place, and what follows it; `draw` draws a glyph, and `rest` reads the parts behind
abbrev pub behind_part : (ℕ → Drawn → Option Drawn) → Part → Option Drawn → Option Drawn
behind_part rest part front = option_and_then (λ drawn. if part.is_followed then rest part.behind drawn else Some drawn) front

abbrev pub drawn_part : (ℕ → Room → Option Drawn) → Part → Drawn → Option Drawn
drawn_part draw part front = option_and_then (λ room. option_and_then (joined_part part front) (draw part.glyph room)) (room_for_part front.room)

-- the parts from a place on, at most n of them
unfoldable pub parts_from : (ℕ → Room → Option Drawn) → List ℕ → ℕ → ℕ → ℕ → Drawn → Option Drawn
parts_from draw bytes stop zero at front = None
parts_from draw bytes stop (suc n) at front =
    option_and_then (λ part. behind_part (parts_from draw bytes stop n) part (drawn_part draw part front)) (part_at bytes stop at)

-- ---- all glyphs

-- a glyph of contours, or of parts, whose bytes these are; `draw` draws a glyph
abbrev pub stretch_drawn : (ℕ → Room → Option Drawn) → List ℕ → ℤ → Stretch → Room → Option Drawn
stretch_drawn draw bytes bearing stretch room =
    if nat_lt stretch.to (stretch.from + 10) then None
    else if nat_lt (u16_at bytes stretch.from) 32768
    then simple_glyph bytes stretch.to (stretch.from + 10) (u16_at bytes stretch.from) (bearing -ℤ s16_at bytes (stretch.from + 2)) room
    else parts_from draw bytes stretch.to max_parts (stretch.from + 10) (no_points (bearing -ℤ s16_at bytes (stretch.from + 2)) room)

-- the same, or a glyph without bytes
abbrev pub drawn_or_blank : (ℕ → Room → Option Drawn) → List ℕ → ℤ → Option Stretch → Room → Option Drawn
drawn_or_blank draw bytes bearing None room = Some (no_points bearing room)
drawn_or_blank draw bytes bearing (Some stretch) room = stretch_drawn draw bytes bearing stretch room

-- the glyph, where parts may still go so deep
unfoldable pub glyph_drawn : SfntFont → ℕ → ℕ → Room → Option Drawn
glyph_drawn font zero g room = None
glyph_drawn font (suc depth) g room =
    if nat_lt g font.numbers.glyphs then drawn_or_blank (glyph_drawn font depth) font.bytes (bearing_of font g) (glyph_stretch font g) room else None

-- where points are moved right
abbrev pub moved_right : ℤ → Placing
moved_right shift = record { a = pos 16384; b = pos 0; c = pos 0; d = pos 16384; dx = shift; dy = pos 0 }

-- points in turn, as contours of these sizes
abbrev pub cut_contours : List ℕ → List GlyphPoint → List (List GlyphPoint)
cut_contours [] points = []
cut_contours (n ∷ sizes) points = take n points ∷ cut_contours sizes (drop n points)

-- a glyph's contours, moved right by its shift
abbrev pub shifted_contours : Drawn → Option (List (List GlyphPoint))
shifted_contours whole = option_and_then (λ points. Some (cut_contours whole.sizes points)) (placed_points (moved_right whole.shift) whole.points [])

abbrev pub contours_or_none : Option (List (List GlyphPoint)) → List (List GlyphPoint)
contours_or_none None = []
contours_or_none (Some contours) = contours

-- the contours of a glyph
abbrev pub contours_of : SfntFont → ℕ → List (List GlyphPoint)
contours_of font g = contours_or_none (option_and_then shifted_contours (glyph_drawn font (max_depth + 1) g (record { points = 0; parts = 0 })))
