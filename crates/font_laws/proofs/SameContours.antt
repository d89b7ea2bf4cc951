-- Files that agree on the tables of a font have the same contours of each glyph.
use Rattle.std.proofs.Common.{◌≡◌, ℕ, zero, suc, ◌+◌, ◌-◌, ◌*◌, ◌<◌, ◌≤◌, List, [], ◌∷◌, ◌++◌, length, Bool, true, false, cond, not, Option, Some, None, ℤ, pos, ◌+ℤ◌, ◌-ℤ◌, refl, ap, sym, subst, ◌∙◌, arith}
use Rattle.std.specs.Prelude.{nat_lt, ◌==◌, slice_index, IfSome, option_and_then}
use Rattle.std.proofs.lemmas.Bool.{lt-ltb, ltb-true, ltb-false}
use Rattle.sfnt_font.specs.declared.directory.Table.{Table}
use Rattle.sfnt_glyphs.specs.declared.drawn.Drawn.{Drawn}
use Rattle.sfnt_glyphs.specs.declared.drawn.Room.{Room}
use Rattle.sfnt_font.specs.declared.maps.CharacterMap.{CharacterMap}
use Rattle.sfnt_font.specs.declared.names.FontNames.{FontNames}
use Rattle.sfnt_font.specs.declared.numbers.Numbers.{Numbers}
use Rattle.sfnt_glyphs.specs.declared.parts.Part.{Part}
use Rattle.sfnt_glyphs.specs.declared.points.Placing.{Placing}
use Rattle.sfnt_font.specs.declared.segments.Segment.{Segment}
use Rattle.sfnt_glyphs.specs.declared.simple.Coordinate.{Coordinate}
use Rattle.sfnt_glyphs.specs.declared.simple.FlagRun.{FlagRun}
use Rattle.sfnt_glyphs.specs.declared.stretch.Stretch.{Stretch}
use Rattle.sfnt_font.specs.declared.font.SfntFont.{SfntFont}
use Rattle.sfnt_font.specs.declared.tables.Outlines.{Outlines}
use Rattle.sfnt_font.specs.declared.tables.Outlines.TheVariants.{TrueTypeOutlines, PostScriptOutlines}
use Rattle.sfnt_font.specs.declared.tables.Tables.{Tables}
use Rattle.font_bytes.specs.Bytes.{u8_at, u16_at, s16_at, s8_at}
use Rattle.sfnt_font.specs.Directory.{table_end}
use Rattle.sfnt_glyphs.specs.Metrics.{bearing_of}
use Rattle.sfnt_glyphs.specs.Glyphs.{collected, next_size, size_of_run, no_size, sizes_at, has_flag, read_flag, next_flag, flag_step, flag_in, no_flag, flags_end, flags_at, held_unit, coordinate_at, short_step, long_step, next_coordinate, coordinate_step, value_in, point_in, no_coordinate, written_xs, written_points, no_points, points_only, points_with, flagged_points, points_behind, simple_points, sized_points, simple_glyph, shift_size, scale_size, placing_by, placing_at, flagged_part, part_at, room_for_part, joined_part, behind_part, drawn_part, parts_from, max_parts, max_points, max_depth, stretch_drawn, drawn_or_blank, glyph_drawn, glyph_stretch, glyph_place, outline_stretch, shifted_contours, contours_or_none, contours_of}
use Rattle.font_laws.specs.Laws.{AgreeOn, AgreeOnTable}
use Rattle.font_laws.proofs.Agreed.{AreOne, none_is, then_one, test_one, u8_same, u16_same, s8_same, s16_same, agree_within, if_same}
use Rattle.font_laws.proofs.SameTables.{AgreeOnOutlines, AgreeOnTables}
use Rattle.font_laws.proofs.SameNumbers.{IsAnything}
use Rattle.font_laws.proofs.SameGlyphs.{font_keeping, bearing_same, stretch_same, IsStretchOf, stretch_in}

-- ---- steps

any_holds : {T : Type 0} (o : Option T) → IfSome o IsAnything
any_holds None = tt
any_holds (Some x) = tt

one_is : {T : Type 0} (o p : Option T) → o ≡ p → AreOne IsAnything o p
one_is o p e = record { same = e; holds = any_holds o }

collected_one : {S B : Type 0} (P : S → Type 0) (step next : ℕ → S → Option S) (item : ℕ → S → B) (k n : ℕ) (s : S) (items : List B) → P s →
    ((j : ℕ) (s : S) → j < k + n → P s → AreOne P (step j s) (next j s)) → AreOne (λ r. P r.0) (collected step item k n s items) (collected next item k n s items)
collected_one P step next item k zero s items h each = record { same = refl; holds = h }
collected_one P step next item k (suc n) s items h each =
    then_one P (λ r. P r.0) (step k s) (next k s) (λ t. collected step item (k + 1) n t (items ++ item k t ∷ [])) (λ t. collected next item (k + 1) n t (items ++ item k t ∷ [])) (each k s (omega arith) h)
    (λ t kept. collected_one P step next item (k + 1) n t (items ++ item k t ∷ []) kept (λ j s less. each j s (omega arith)))

-- ---- sizes

sizes_one : (a b : List ℕ) (from stop at n : ℕ) → AgreeOn a b from stop → from ≤ at → at + 2 * n ≤ stop → AreOne IsAnything (sizes_at a at n) (sizes_at b at n)
sizes_one a b from stop at n h low room =
    one_is (sizes_at a at n) (sizes_at b at n) (collected_one IsAnything (next_size a at) (next_size b at) size_of_run 0 n no_size [] tt (λ j s less k.
    let last : u16_at a (at + 2 * j) ≡ u16_at b (at + 2 * j) = u16_same a b from stop (at + 2 * j) h (omega arith) (omega arith) in
    one_is (next_size a at j s) (next_size b at j s) (ap (λ n. cond (nat_lt n s.behind) None (Some (record { size = n + 1 - s.behind; behind = n + 1 }))) last))).same

-- ---- flags

-- the next place lies at or behind this one
abbrev IsFlagBehind : ℕ → FlagRun → Type 0
IsFlagBehind from run = from ≤ run.at

read_flag_one : (a b : List ℕ) (from stop at flag : ℕ) → AgreeOn a b from stop → from ≤ at → AreOne (IsFlagBehind from) (read_flag a stop at flag) (read_flag b stop at flag)
read_flag_one a b from stop at flag h low =
    test_one (IsFlagBehind from) (has_flag flag 8) (has_flag flag 8) _ _ _ _ refl (λ _.
    test_one (IsFlagBehind from) (nat_lt stop (at + 2)) (nat_lt stop (at + 2)) _ _ _ _ refl (λ _. none_is (IsFlagBehind from)) (λ fits.
    let room : at + 2 ≤ stop = ltb-false stop (at + 2) fits in
    record { same = ap (λ (n : ℕ). Some (record { at = at + 2; flag = flag; again = n })) (u8_same a b from stop (at + 1) h (omega arith) (omega (arith, room))); holds = omega (arith, low) }))
    (λ _. record { same = refl; holds = omega (arith, low) })

next_flag_one : (a b : List ℕ) (from stop : ℕ) (run : FlagRun) → AgreeOn a b from stop → IsFlagBehind from run → AreOne (IsFlagBehind from) (next_flag a stop run) (next_flag b stop run)
next_flag_one a b from stop run h low =
    test_one (IsFlagBehind from) (not (run.again == 0)) (not (run.again == 0)) _ _ _ _ refl (λ _. record { same = refl; holds = low }) (λ _.
    test_one (IsFlagBehind from) (nat_lt stop (run.at + 1)) (nat_lt stop (run.at + 1)) _ _ _ _ refl (λ _. none_is (IsFlagBehind from)) (λ fits.
    let room : run.at + 1 ≤ stop = ltb-false stop (run.at + 1) fits in
    let one = read_flag_one a b from stop run.at (u8_at a run.at) h low in
    record { same = one.same ∙ ap (read_flag b stop run.at) (u8_same a b from stop run.at h low room); holds = one.holds }))

flags_end_one : (from : ℕ) (read : FlagRun × List ℕ) → IsFlagBehind from read.0 → AreOne (λ r. from ≤ r.0) (flags_end read) (flags_end read)
flags_end_one from read low =
    test_one (λ r. from ≤ r.0) (read.0.again == 0) (read.0.again == 0) _ _ _ _ refl (λ _. record { same = refl; holds = low }) (λ _. none_is (λ r. from ≤ r.0))

flags_one : (a b : List ℕ) (from stop at n : ℕ) → AgreeOn a b from stop → from ≤ at → AreOne (λ r. from ≤ r.0) (flags_at a stop at n) (flags_at b stop at n)
flags_one a b from stop at n h low =
    then_one (λ r. IsFlagBehind from r.0) (λ r. from ≤ r.0) (collected (flag_step a stop) flag_in 0 n (no_flag at) []) (collected (flag_step b stop) flag_in 0 n (no_flag at) []) flags_end flags_end
    (collected_one (IsFlagBehind from) (flag_step a stop) (flag_step b stop) flag_in 0 n (no_flag at) [] low (λ j run less kept. next_flag_one a b from stop run h kept)) (flags_end_one from)

-- ---- coordinates

abbrev IsBehindPlace : ℕ → Coordinate → Type 0
IsBehindPlace from c = from ≤ c.at

held_one : (from at : ℕ) (o : Option ℤ) → from ≤ at → IfSome (option_and_then (λ held. Some (record { at = at; value = held })) o) (IsBehindPlace from)
held_one from at None low = tt
held_one from at (Some held) low = low

coordinate_one : (from at : ℕ) (v w : ℤ) → from ≤ at → v ≡ w → AreOne (IsBehindPlace from) (coordinate_at at v) (coordinate_at at w)
coordinate_one from at v w low e = record { same = ap (coordinate_at at) e; holds = held_one from at (held_unit v) low }

short_one : (a b : List ℕ) (from stop : ℕ) (is_up : Bool) (c : Coordinate) → AgreeOn a b from stop → IsBehindPlace from c → AreOne (IsBehindPlace from) (short_step a stop is_up c) (short_step b stop is_up c)
short_one a b from stop is_up c h low =
    test_one (IsBehindPlace from) (nat_lt stop (c.at + 1)) (nat_lt stop (c.at + 1)) _ _ _ _ refl (λ _. none_is (IsBehindPlace from)) (λ fits.
    let room : c.at + 1 ≤ stop = ltb-false stop (c.at + 1) fits in
    coordinate_one from (c.at + 1) _ _ (omega (arith, low)) (ap (λ n. cond is_up (c.value +ℤ pos n) (c.value -ℤ pos n)) (u8_same a b from stop c.at h low room)))

long_one : (a b : List ℕ) (from stop : ℕ) (c : Coordinate) → AgreeOn a b from stop → IsBehindPlace from c → AreOne (IsBehindPlace from) (long_step a stop c) (long_step b stop c)
long_one a b from stop c h low =
    test_one (IsBehindPlace from) (nat_lt stop (c.at + 2)) (nat_lt stop (c.at + 2)) _ _ _ _ refl (λ _. none_is (IsBehindPlace from)) (λ fits.
    let room : c.at + 2 ≤ stop = ltb-false stop (c.at + 2) fits in
    coordinate_one from (c.at + 2) _ _ (omega (arith, low)) (ap (λ z. c.value +ℤ z) (s16_same a b from stop c.at h low room)))

next_one : (a b : List ℕ) (from stop short same flag : ℕ) (c : Coordinate) → AgreeOn a b from stop → IsBehindPlace from c →
    AreOne (IsBehindPlace from) (next_coordinate a stop short same flag c) (next_coordinate b stop short same flag c)
next_one a b from stop short same flag c h low =
    test_one (IsBehindPlace from) (has_flag flag short) (has_flag flag short) _ _ _ _ refl (λ _. short_one a b from stop (has_flag flag same) c h low) (λ _.
    test_one (IsBehindPlace from) (has_flag flag same) (has_flag flag same) _ _ _ _ refl (λ _. record { same = refl; holds = low }) (λ _. long_one a b from stop c h low))

-- the coordinates of points, whatever is made of each
coordinates_one : {B : Type 0} (a b : List ℕ) (from stop short same : ℕ) (flags : List ℕ) (item : ℕ → Coordinate → B) (at : ℕ) → AgreeOn a b from stop → from ≤ at →
    AreOne (λ r. IsBehindPlace from r.0) (collected (coordinate_step a stop short same flags) item 0 (length flags) (no_coordinate at) []) (collected (coordinate_step b stop short same flags) item 0 (length flags) (no_coordinate at) [])
coordinates_one a b from stop short same flags item at h low =
    collected_one (IsBehindPlace from) (coordinate_step a stop short same flags) (coordinate_step b stop short same flags) item 0 (length flags) (no_coordinate at) [] low
    (λ j c less kept. next_one a b from stop short same (slice_index flags j) c h kept)

points_with_one : (a b : List ℕ) (from stop : ℕ) (flags : List ℕ) (read : Coordinate × List ℤ) → AgreeOn a b from stop → IsBehindPlace from read.0 → AreOne IsAnything (points_with a stop flags read) (points_with b stop flags read)
points_with_one a b from stop flags read h low =
    then_one (λ r. IsBehindPlace from r.0) IsAnything (written_points a stop flags read.1 read.0.at) (written_points b stop flags read.1 read.0.at) points_only points_only
    (coordinates_one a b from stop 4 32 flags (point_in flags read.1) read.0.at h low) (λ r _. one_is (points_only r) (points_only r) refl)

flagged_points_one : (a b : List ℕ) (from stop : ℕ) (read : ℕ × List ℕ) → AgreeOn a b from stop → from ≤ read.0 → AreOne IsAnything (flagged_points a stop read) (flagged_points b stop read)
flagged_points_one a b from stop read h low =
    then_one (λ r. IsBehindPlace from r.0) IsAnything (written_xs a stop read.1 read.0) (written_xs b stop read.1 read.0) (points_with a stop read.1) (points_with b stop read.1)
    (coordinates_one a b from stop 2 16 read.1 value_in read.0 h low) (λ r kept. points_with_one a b from stop read.1 r h kept)

points_behind_same : (a b : List ℕ) (from stop n at : ℕ) → AgreeOn a b from stop → from ≤ at → points_behind a stop n at ≡ points_behind b stop n at
points_behind_same a b from stop n at h low =
    (then_one (λ r. from ≤ r.0) IsAnything (flags_at a stop at n) (flags_at b stop at n) (flagged_points a stop) (flagged_points b stop) (flags_one a b from stop at n h low)
    (λ r kept. flagged_points_one a b from stop r h kept)).same

-- ---- simple glyphs

simple_points_same : (a b : List ℕ) (from stop n : ℕ) (sizes : List ℕ) (at : ℕ) (shift : ℤ) (room : Room) → AgreeOn a b from stop → from ≤ at → at + 2 ≤ stop →
    simple_points a stop n sizes at shift room ≡ simple_points b stop n sizes at shift room
simple_points_same a b from stop n sizes at shift room h low fits =
    if_same (nat_lt max_points (room.points + n)) (nat_lt max_points (room.points + n)) refl (λ _. refl) (λ _.
    ap (option_and_then (λ points. Some (record { sizes = sizes; points = points; shift = shift; room = record { points = room.points + n; parts = room.parts } })))
    (points_behind_same a b from stop n (at + 2 + u16_at a at) h (omega arith) ∙ ap (λ k. points_behind b stop n (at + 2 + k)) (u16_same a b from stop at h low fits)))

simple_same : (a b : List ℕ) (from stop at n : ℕ) (shift : ℤ) (room : Room) → AgreeOn a b from stop → from ≤ at → simple_glyph a stop at n shift room ≡ simple_glyph b stop at n shift room
simple_same a b from stop at n shift room h low =
    if_same (n == 0) (n == 0) refl (λ _. refl) (λ _.
    if_same (nat_lt stop (at + 2 * n + 2)) (nat_lt stop (at + 2 * n + 2)) refl (λ _. refl) (λ fits.
    let inside : at + 2 * n + 2 ≤ stop = ltb-false stop (at + 2 * n + 2) fits in
    (then_one IsAnything IsAnything (sizes_at a at n) (sizes_at b at n) (sized_points a stop (at + 2 * n) shift room) (sized_points b stop (at + 2 * n) shift room) (sizes_one a b from stop at n h low (omega (arith, inside))) (λ read _.
    one_is _ _ (simple_points_same a b from stop read.0.behind read.1 (at + 2 * n) shift room h (omega arith) inside))).same))

-- ---- parts

placing_by_same : (a b : List ℕ) (from stop flags scale : ℕ) (dx dy : ℤ) → AgreeOn a b from stop → from ≤ scale → scale + scale_size flags ≤ stop → placing_by a flags scale dx dy ≡ placing_by b flags scale dx dy
placing_by_same a b from stop flags scale dx dy h low fits = by_flags (has_flag flags 8) (has_flag flags 64) (has_flag flags 128) fits
  where
    by_flags : (one two four : Bool) → scale + cond one 2 (cond two 4 (cond four 8 0)) ≤ stop →
        cond one (record { a = s16_at a scale; b = pos 0; c = pos 0; d = s16_at a scale; dx = dx; dy = dy })
        (cond two (record { a = s16_at a scale; b = pos 0; c = pos 0; d = s16_at a (scale + 2); dx = dx; dy = dy })
        (cond four (record { a = s16_at a scale; b = s16_at a (scale + 2); c = s16_at a (scale + 4); d = s16_at a (scale + 6); dx = dx; dy = dy })
        (record { a = pos 16384; b = pos 0; c = pos 0; d = pos 16384; dx = dx; dy = dy })))
        ≡ cond {A = Placing} one (record { a = s16_at b scale; b = pos 0; c = pos 0; d = s16_at b scale; dx = dx; dy = dy })
        (cond two (record { a = s16_at b scale; b = pos 0; c = pos 0; d = s16_at b (scale + 2); dx = dx; dy = dy })
        (cond four (record { a = s16_at b scale; b = s16_at b (scale + 2); c = s16_at b (scale + 4); d = s16_at b (scale + 6); dx = dx; dy = dy })
        (record { a = pos 16384; b = pos 0; c = pos 0; d = pos 16384; dx = dx; dy = dy })))
    by_flags true two four room = ap (λ (x : ℤ). record { a = x; b = pos 0; c = pos 0; d = x; dx = dx; dy = dy }) (s16_same a b from stop scale h low (omega arith))
    by_flags false true four room =
        ap (λ (x : ℤ). record { a = x; b = pos 0; c = pos 0; d = s16_at a (scale + 2); dx = dx; dy = dy }) (s16_same a b from stop scale h low (omega arith))
        ∙ ap (λ (x : ℤ). record { a = s16_at b scale; b = pos 0; c = pos 0; d = x; dx = dx; dy = dy }) (s16_same a b from stop (scale + 2) h (omega arith) (omega arith))
    by_flags false false true room =
        ap (λ (x : ℤ). record { a = x; b = s16_at a (scale + 2); c = s16_at a (scale + 4); d = s16_at a (scale + 6); dx = dx; dy = dy }) (s16_same a b from stop scale h low (omega arith))
        ∙ (ap (λ (x : ℤ). record { a = s16_at b scale; b = x; c = s16_at a (scale + 4); d = s16_at a (scale + 6); dx = dx; dy = dy }) (s16_same a b from stop (scale + 2) h (omega arith) (omega arith))
        ∙ (ap (λ (x : ℤ). record { a = s16_at b scale; b = s16_at b (scale + 2); c = x; d = s16_at a (scale + 6); dx = dx; dy = dy }) (s16_same a b from stop (scale + 4) h (omega arith) (omega arith))
        ∙ ap (λ (x : ℤ). record { a = s16_at b scale; b = s16_at b (scale + 2); c = s16_at b (scale + 4); d = x; dx = dx; dy = dy }) (s16_same a b from stop (scale + 6) h (omega arith) (omega arith))))
    by_flags false false false room = refl

placing_at_same : (a b : List ℕ) (from stop flags at : ℕ) → AgreeOn a b from stop → from ≤ at → at + shift_size flags + scale_size flags ≤ stop → placing_at a flags at ≡ placing_at b flags at
placing_at_same a b from stop flags at h low fits = by_flag (has_flag flags 1) fits
  where
    by_flag : (wide : Bool) → at + cond wide 4 2 + scale_size flags ≤ stop →
        cond wide (placing_by a flags (at + 4) (s16_at a at) (s16_at a (at + 2))) (placing_by a flags (at + 2) (s8_at a at) (s8_at a (at + 1)))
        ≡ cond wide (placing_by b flags (at + 4) (s16_at b at) (s16_at b (at + 2))) (placing_by b flags (at + 2) (s8_at b at) (s8_at b (at + 1)))
    by_flag true room =
        placing_by_same a b from stop flags (at + 4) (s16_at a at) (s16_at a (at + 2)) h (omega arith) room
        ∙ (ap (λ z. placing_by b flags (at + 4) z (s16_at a (at + 2))) (s16_same a b from stop at h low (omega arith))
        ∙ ap (placing_by b flags (at + 4) (s16_at b at)) (s16_same a b from stop (at + 2) h (omega arith) (omega arith)))
    by_flag false room =
        placing_by_same a b from stop flags (at + 2) (s8_at a at) (s8_at a (at + 1)) h (omega arith) room
        ∙ (ap (λ z. placing_by b flags (at + 2) z (s8_at a (at + 1))) (s8_same a b from stop at h low (omega arith))
        ∙ ap (placing_by b flags (at + 2) (s8_at b at)) (s8_same a b from stop (at + 1) h (omega arith) (omega arith)))

-- the next part lies behind
abbrev IsPartBehind : ℕ → Part → Type 0
IsPartBehind from part = from ≤ part.behind

flagged_one : (a b : List ℕ) (from stop at flags : ℕ) → AgreeOn a b from stop → from ≤ at → AreOne (IsPartBehind from) (flagged_part a stop at flags) (flagged_part b stop at flags)
flagged_one a b from stop at flags h low =
    test_one (IsPartBehind from) (nat_lt stop (at + 4 + shift_size flags + scale_size flags)) (nat_lt stop (at + 4 + shift_size flags + scale_size flags)) _ _ _ _ refl (λ _. none_is (IsPartBehind from)) (λ fits.
    let room : (at + 4) + shift_size flags + scale_size flags ≤ stop = ltb-false stop (at + 4 + shift_size flags + scale_size flags) fits in
    test_one (IsPartBehind from) (not (has_flag flags 2)) (not (has_flag flags 2)) _ _ _ _ refl (λ _. none_is (IsPartBehind from)) (λ _.
    record {
      same =
          ap (λ (n : ℕ). Some (record { glyph = n; placing = placing_at a flags (at + 4); is_own_shift = has_flag flags 512; is_followed = has_flag flags 32; behind = at + 4 + shift_size flags + scale_size flags }))
          (u16_same a b from stop (at + 2) h (omega arith) (omega (arith, room)))
          ∙ ap (λ (placing : Placing). Some (record { glyph = u16_at b (at + 2); placing = placing; is_own_shift = has_flag flags 512; is_followed = has_flag flags 32; behind = at + 4 + shift_size flags + scale_size flags }))
          (placing_at_same a b from stop flags (at + 4) h (omega arith) room);
      holds = omega (arith, low);
    }))

part_one : (a b : List ℕ) (from stop at : ℕ) → AgreeOn a b from stop → from ≤ at → AreOne (IsPartBehind from) (part_at a stop at) (part_at b stop at)
part_one a b from stop at h low = either (nat_lt stop (at + 2)) refl
  where
    past : (bytes : List ℕ) (flags : ℕ) → stop < at + 2 → flagged_part bytes stop at flags ≡ None
    past bytes flags out =
        let short : nat_lt stop (at + 4 + shift_size flags + scale_size flags) ≡ true = lt-ltb stop (at + 4 + shift_size flags + scale_size flags) (omega (arith, out)) in
        ap (λ c. cond c None (cond (not (has_flag flags 2)) None (Some (record { glyph = u16_at bytes (at + 2); placing = placing_at bytes flags (at + 4); is_own_shift = has_flag flags 512; is_followed = has_flag flags 32; behind = at + 4 + shift_size flags + scale_size flags })))) short

    either : (c : Bool) → nat_lt stop (at + 2) ≡ c → AreOne (IsPartBehind from) (part_at a stop at) (part_at b stop at)
    either true out =
        let none = past a (u16_at a at) (ltb-true stop (at + 2) out) in
        record { same = none ∙ sym (past b (u16_at b at) (ltb-true stop (at + 2) out)); holds = subst (λ (o : Option Part). IfSome o (IsPartBehind from)) (sym none) tt }
    either false fits =
        let one = flagged_one a b from stop at (u16_at a at) h low in
        record { same = one.same ∙ ap (flagged_part b stop at) (u16_same a b from stop at h low (ltb-false stop (at + 2) fits)); holds = one.holds }

-- a part whose glyph is drawn alike
drawn_part_same : (draw other : ℕ → Room → Option Drawn) (part : Part) (front : Drawn) → ((g : ℕ) (room : Room) → draw g room ≡ other g room) → drawn_part draw part front ≡ drawn_part other part front
drawn_part_same draw other part front e = by_room (room_for_part front.room)
  where
    by_room : (o : Option Room) → option_and_then (λ room. option_and_then (joined_part part front) (draw part.glyph room)) o ≡ option_and_then (λ room. option_and_then (joined_part part front) (other part.glyph room)) o
    by_room None = refl
    by_room (Some room) = ap (option_and_then (joined_part part front)) (e part.glyph room)

behind_part_same : (rest other : ℕ → Drawn → Option Drawn) (part : Part) (o : Option Drawn) → ((drawn : Drawn) → rest part.behind drawn ≡ other part.behind drawn) → behind_part rest part o ≡ behind_part other part o
behind_part_same rest other part None e = refl
behind_part_same rest other part (Some drawn) e = ap (λ o. cond part.is_followed o (Some drawn)) (e drawn)

parts_same : (draw other : ℕ → Room → Option Drawn) (a b : List ℕ) (from stop n at : ℕ) (front : Drawn) → ((g : ℕ) (room : Room) → draw g room ≡ other g room) → AgreeOn a b from stop → from ≤ at →
    parts_from draw a stop n at front ≡ parts_from other b stop n at front
unfolding parts_from
parts_same draw other a b from stop zero at front e h low = refl
parts_same draw other a b from stop (suc n) at front e h low =
    (then_one (IsPartBehind from) IsAnything (part_at a stop at) (part_at b stop at)
    (λ part. behind_part (parts_from draw a stop n) part (drawn_part draw part front)) (λ part. behind_part (parts_from other b stop n) part (drawn_part other part front)) (part_one a b from stop at h low) (λ part behind.
    one_is _ _ (behind_part_same (parts_from draw a stop n) (parts_from other b stop n) part (drawn_part draw part front) (λ drawn. parts_same draw other a b from stop n part.behind drawn e h behind)
    ∙ ap (behind_part (parts_from other b stop n) part) (drawn_part_same draw other part front e)))).same

-- ---- all glyphs

stretch_drawn_same : (draw other : ℕ → Room → Option Drawn) (a b : List ℕ) (bearing : ℤ) (s : Stretch) (room : Room) → ((g : ℕ) (room : Room) → draw g room ≡ other g room) → AgreeOn a b s.from s.to →
    stretch_drawn draw a bearing s room ≡ stretch_drawn other b bearing s room
stretch_drawn_same draw other a b bearing s room e h =
    if_same (nat_lt s.to (s.from + 10)) (nat_lt s.to (s.from + 10)) refl (λ _. refl) (λ fits.
    let inside : s.from + 10 ≤ s.to = ltb-false s.to (s.from + 10) fits in
    let count : u16_at a s.from ≡ u16_at b s.from = u16_same a b s.from s.to s.from h (omega arith) (omega (arith, inside)) in
    let left : s16_at a (s.from + 2) ≡ s16_at b (s.from + 2) = s16_same a b s.from s.to (s.from + 2) h (omega arith) (omega (arith, inside)) in
    if_same (nat_lt (u16_at a s.from) 32768) (nat_lt (u16_at b s.from) 32768) (ap (λ n. nat_lt n 32768) count)
    (λ _. simple_same a b s.from s.to (s.from + 10) (u16_at a s.from) (bearing -ℤ s16_at a (s.from + 2)) room h (omega arith)
    ∙ (ap (λ n. simple_glyph b s.to (s.from + 10) n (bearing -ℤ s16_at a (s.from + 2)) room) count
    ∙ ap (λ z. simple_glyph b s.to (s.from + 10) (u16_at b s.from) (bearing -ℤ z) room) left))
    (λ _. parts_same draw other a b s.from s.to max_parts (s.from + 10) (no_points (bearing -ℤ s16_at a (s.from + 2)) room) e h (omega arith)
    ∙ ap (λ z. parts_from other b s.to max_parts (s.from + 10) (no_points (bearing -ℤ z) room)) left))

drawn_or_blank_same : (draw other : ℕ → Room → Option Drawn) (a b : List ℕ) (glyf : Table) (bearing : ℤ) (o : Option Stretch) (room : Room) → ((g : ℕ) (room : Room) → draw g room ≡ other g room) →
    AgreeOnTable a b glyf → IfSome o (IsStretchOf glyf) → drawn_or_blank draw a bearing o room ≡ drawn_or_blank other b bearing o room
drawn_or_blank_same draw other a b glyf bearing None room e h is = refl
drawn_or_blank_same draw other a b glyf bearing (Some s) room e h is =
    stretch_drawn_same draw other a b bearing s room e (agree_within a b glyf.place (table_end glyf) s.from s.to h is.0 is.1)

outlines_drawn_same : (draw other : ℕ → Room → Option Drawn) (a b : List ℕ) (f : SfntFont) (g : ℕ) (bearing : ℤ) (outlines : Outlines) (room : Room) → ((g : ℕ) (room : Room) → draw g room ≡ other g room) →
    AgreeOnOutlines a b outlines → drawn_or_blank draw a bearing (outline_stretch f outlines g) room ≡ drawn_or_blank other b bearing (outline_stretch f outlines g) room
outlines_drawn_same draw other a b f g bearing (TrueTypeOutlines loca glyf) room e h =
    drawn_or_blank_same draw other a b glyf bearing (outline_stretch f (TrueTypeOutlines loca glyf) g) room e h.1.0 (stretch_in glyf (glyph_place f loca g) (glyph_place f loca (g + 1)))
outlines_drawn_same draw other a b f g bearing (PostScriptOutlines cff) room e h = refl

glyph_drawn_same : (a b : List ℕ) (tables : Tables) (numbers : Numbers) (m : CharacterMap) (segments : List Segment) (names : FontNames) (depth g : ℕ) (room : Room) → AgreeOnTables a b tables →
    glyph_drawn (font_keeping a tables numbers m segments names) depth g room ≡ glyph_drawn (font_keeping b tables numbers m segments names) depth g room
unfolding glyph_drawn
glyph_drawn_same a b tables numbers m segments names zero g room h = refl
glyph_drawn_same a b tables numbers m segments names (suc depth) g room h =
    let f = font_keeping a tables numbers m segments names in
    let other = font_keeping b tables numbers m segments names in
    if_same (nat_lt g numbers.glyphs) (nat_lt g numbers.glyphs) refl (λ _.
    outlines_drawn_same (glyph_drawn f depth) (glyph_drawn other depth) a b f g (bearing_of f g) tables.outlines room
    (λ part room. glyph_drawn_same a b tables numbers m segments names depth part room h) h.outlines
    ∙ (ap (λ z. drawn_or_blank (glyph_drawn other depth) b z (glyph_stretch f g) room) (bearing_same a b tables.hmtx numbers.advances g h.hmtx.0)
    ∙ ap (λ o. drawn_or_blank (glyph_drawn other depth) b (bearing_of other g) o room) (stretch_same a b tables numbers m segments names g h))) (λ _. refl)

pub contours_same : (a b : List ℕ) (tables : Tables) (numbers : Numbers) (m : CharacterMap) (segments : List Segment) (names : FontNames) (g : ℕ) → AgreeOnTables a b tables →
    contours_of (font_keeping a tables numbers m segments names) g ≡ contours_of (font_keeping b tables numbers m segments names) g
contours_same a b tables numbers m segments names g h =
    ap (λ o. contours_or_none (option_and_then shifted_contours o)) (glyph_drawn_same a b tables numbers m segments names (max_depth + 1) g (record { points = 0; parts = 0 }) h)
