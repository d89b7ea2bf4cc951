-- Files that agree on the table of the map have the same map and segments.
use Rattle.std.proofs.Common.{◌≡◌, ℕ, zero, suc, ◌+◌, ◌*◌, ◌/◌, ◌<◌, ◌≤◌, List, length, Bool, true, false, cond, ◌&&◌, ◌||◌, Result, Ok, Err, ◌⊎◌, inl, inr, refl, ap, subst, ◌∙◌, arith}
use Rattle.std.specs.Prelude.{nat_lt, nat_le, ◌==◌, IfOk}
use Rattle.std.proofs.lemmas.Bool.{and_parts, ltb-false, leb-true}
use Rattle.std.proofs.lemmas.Bool.Decides.{nat_tests}
use Rattle.sfnt_font.specs.declared.cause.SfntCause.TheVariants.{BadMap}
use Rattle.sfnt_font.specs.declared.cause.SfntRefusal.{SfntRefusal}
use Rattle.sfnt_font.specs.declared.cause.SfntRefusal.TheVariants.{BadFont}
use Rattle.sfnt_font.specs.declared.directory.Table.{Table}
use Rattle.sfnt_font.specs.declared.maps.CharacterMap.{CharacterMap}
use Rattle.sfnt_font.specs.declared.maps.Choice.{Choice}
use Rattle.sfnt_font.specs.declared.maps.MapFormat.{MapFormat}
use Rattle.sfnt_font.specs.declared.maps.MapFormat.TheVariants.{Ranges, Groups}
use Rattle.sfnt_font.specs.declared.segments.Segment.{Segment}
use Rattle.font_bytes.specs.Bytes.{u16_at, u32_at}
use Rattle.sfnt_font.specs.Directory.{table_end}
use Rattle.sfnt_font.specs.Maps.{choice_at, is_read_map, no_choice, no_rank, better, best_map, map_rank, unless_none, chosen_map, groups_map, ranges_map, whole_map, map_of, segment_at, segment_in, segments_from, segments_of, codes_to, symbol_rank, group_place, last_code_place, first_code_place}
use Rattle.font_laws.specs.Laws.{AgreeOn, AgreeOnTable}
use Rattle.font_laws.proofs.Agreed.{u16_same, u32_same, and_same}
use Rattle.font_laws.proofs.SameTables.{AreSameReadings, AgreeOnLong, both_refused, test_same, then_same}
use Rattle.font_laws.proofs.SameNumbers.{IsAnything}

-- a reading that goes on behind a number
behind_number : {T : Type 0} (P : T → Type 0) (r : Result T SfntRefusal) (f : ℕ → Result T SfntRefusal) (n m : ℕ) → n ≡ m → AreSameReadings P r (f n) → AreSameReadings P r (f m)
behind_number P r f n m e h = record { same = h.same ∙ ap f e; holds = h.holds }

-- ---- the choice

-- A choice without a map, or of one that begins in the table.
abbrev IsFoundMap : Table → Choice → Type 0
IsFoundMap cmap best = (best.rank ≡ no_rank) ⊎ ((cmap.place ≤ best.place) × (best.place + 2 ≤ table_end cmap))

read_map_same : (a b : List ℕ) (cmap : Table) (at : ℕ) → AgreeOnTable a b cmap → cmap.place ≤ at → is_read_map a cmap at ≡ is_read_map b cmap at
read_map_same a b cmap at h low =
    and_same (nat_le (at + 2) (table_end cmap)) ((u16_at a at == 4) || (u16_at a at == 12)) ((u16_at b at == 4) || (u16_at b at == 12)) (λ inside.
    let room : at + 2 ≤ table_end cmap = leb-true (at + 2) (table_end cmap) inside in
    ap (λ n. (n == 4) || (n == 12)) (u16_same a b cmap.place (table_end cmap) at h low room))

choice_same : (a b : List ℕ) (cmap : Table) (at : ℕ) → AgreeOnTable a b cmap → cmap.place ≤ at → at + 8 ≤ table_end cmap → choice_at a cmap at ≡ choice_at b cmap at
choice_same a b cmap at h low room =
    let platform : u16_at a at ≡ u16_at b at = u16_same a b cmap.place (table_end cmap) at h low (omega (arith, room)) in
    let encoding : u16_at a (at + 2) ≡ u16_at b (at + 2) = u16_same a b cmap.place (table_end cmap) (at + 2) h (omega arith) (omega (arith, room)) in
    let place : u32_at a (at + 4) ≡ u32_at b (at + 4) = u32_same a b cmap.place (table_end cmap) (at + 4) h (omega arith) (omega (arith, room)) in
    let read : is_read_map a cmap (cmap.place + u32_at a (at + 4)) ≡ is_read_map b cmap (cmap.place + u32_at a (at + 4)) = read_map_same a b cmap (cmap.place + u32_at a (at + 4)) h (omega arith) in
    ap (λ c. cond c (record { rank = map_rank (u16_at a at) (u16_at a (at + 2)); place = cmap.place + u32_at a (at + 4) }) no_choice) read
    ∙ (ap (λ n. cond (is_read_map b cmap (cmap.place + u32_at a (at + 4))) (record { rank = map_rank n (u16_at a (at + 2)); place = cmap.place + u32_at a (at + 4) }) no_choice) platform
    ∙ (ap (λ n. cond (is_read_map b cmap (cmap.place + u32_at a (at + 4))) (record { rank = map_rank (u16_at b at) n; place = cmap.place + u32_at a (at + 4) }) no_choice) encoding
    ∙ ap (λ n. cond (is_read_map b cmap (cmap.place + n)) (record { rank = map_rank (u16_at b at) (u16_at b (at + 2)); place = cmap.place + n }) no_choice) place))

best_same : (a b : List ℕ) (cmap : Table) (at n : ℕ) (best : Choice) → AgreeOnTable a b cmap → cmap.place ≤ at → at + 8 * n ≤ table_end cmap → best_map a cmap at n best ≡ best_map b cmap at n best
best_same a b cmap at zero best h low room = refl
best_same a b cmap at (suc n) best h low room =
    ap (λ choice. best_map a cmap (at + 8) n (better best choice)) (choice_same a b cmap at h low (omega (arith, room)))
    ∙ best_same a b cmap (at + 8) n (better best (choice_at b cmap at)) h (omega arith) (omega (arith, room))

found_or_none : (cmap : Table) (offset rank : ℕ) (c read : Bool) → (nat_le ((cmap.place + offset) + 2) (table_end cmap) && read) ≡ c → IsFoundMap cmap (cond c (record { rank = rank; place = cmap.place + offset }) no_choice)
found_or_none cmap offset rank true read e = inr (omega arith, leb-true ((cmap.place + offset) + 2) (table_end cmap) (and_parts (nat_le ((cmap.place + offset) + 2) (table_end cmap)) read e).0)
found_or_none cmap offset rank false read e = inl refl

choice_found : (bytes : List ℕ) (cmap : Table) (at : ℕ) → IsFoundMap cmap (choice_at bytes cmap at)
choice_found bytes cmap at =
    found_or_none cmap (u32_at bytes (at + 4)) (map_rank (u16_at bytes at) (u16_at bytes (at + 2))) (is_read_map bytes cmap (cmap.place + u32_at bytes (at + 4)))
    ((u16_at bytes (cmap.place + u32_at bytes (at + 4)) == 4) || (u16_at bytes (cmap.place + u32_at bytes (at + 4)) == 12)) refl

better_found : (cmap : Table) (best next : Choice) → IsFoundMap cmap best → IsFoundMap cmap next → IsFoundMap cmap (better best next)
better_found cmap best next h k = either (nat_lt next.rank best.rank)
  where
    either : (c : Bool) → IsFoundMap cmap (cond c next best)
    either true = k
    either false = h

best_found : (bytes : List ℕ) (cmap : Table) (at n : ℕ) (best : Choice) → IsFoundMap cmap best → IsFoundMap cmap (best_map bytes cmap at n best)
best_found bytes cmap at zero best h = h
best_found bytes cmap at (suc n) best h = best_found bytes cmap (at + 8) n (better best (choice_at bytes cmap at)) (better_found cmap best (choice_at bytes cmap at) h (choice_found bytes cmap at))

abbrev IsChosen : Table → Choice → Type 0
IsChosen cmap choice = (cmap.place ≤ choice.place) × (choice.place + 2 ≤ table_end cmap)

chosen-step : (cmap : Table) (best : Choice) → IsFoundMap cmap best → AreSameReadings (IsChosen cmap) (unless_none cmap best) (unless_none cmap best)
chosen-step cmap best h = test_same (IsChosen cmap) (best.rank == no_rank) (best.rank == no_rank) _ _ _ _ refl (λ _. both_refused (IsChosen cmap) _) (λ ranked. record { same = refl; holds = placed h ranked })
  where
    placed : IsFoundMap cmap best → (best.rank == no_rank) ≡ false → IsChosen cmap best
    placed (inl none) ranked = absurd (grind (arith, nat_tests))
    placed (inr room) ranked = room

listed_map_same : (a b : List ℕ) (cmap : Table) (n : ℕ) → AgreeOnTable a b cmap → cmap.place + 4 + 8 * n ≤ table_end cmap →
    AreSameReadings (IsChosen cmap) (unless_none cmap (best_map a cmap (cmap.place + 4) n no_choice)) (unless_none cmap (best_map b cmap (cmap.place + 4) n no_choice))
listed_map_same a b cmap n h room =
    subst (λ (best : Choice). AreSameReadings (IsChosen cmap) (unless_none cmap (best_map a cmap (cmap.place + 4) n no_choice)) (unless_none cmap best))
    (best_same a b cmap (cmap.place + 4) n no_choice h (omega arith) (omega (arith, room)))
    (chosen-step cmap (best_map a cmap (cmap.place + 4) n no_choice) (best_found a cmap (cmap.place + 4) n no_choice (inl refl)))

chosen_same : (a b : List ℕ) (cmap : Table) → AgreeOnLong a b 4 cmap → AreSameReadings (IsChosen cmap) (chosen_map a cmap) (chosen_map b cmap)
chosen_same a b cmap (h, long) =
    behind_number (IsChosen cmap) (chosen_map a cmap)
    (λ n. cond (nat_lt (table_end cmap) (cmap.place + 4 + 8 * n)) (Err (BadFont (cmap.place + 2) BadMap)) (unless_none cmap (best_map b cmap (cmap.place + 4) n no_choice)))
    (u16_at a (cmap.place + 2)) (u16_at b (cmap.place + 2)) (u16_same a b cmap.place (table_end cmap) (cmap.place + 2) h (omega arith) (omega (arith, long)))
    (test_same (IsChosen cmap) (nat_lt (table_end cmap) (cmap.place + 4 + 8 * u16_at a (cmap.place + 2))) (nat_lt (table_end cmap) (cmap.place + 4 + 8 * u16_at a (cmap.place + 2))) _ _ _ _ refl
    (λ _. both_refused (IsChosen cmap) _) (λ fits. listed_map_same a b cmap (u16_at a (cmap.place + 2)) h (ltb-false (table_end cmap) (cmap.place + 4 + 8 * u16_at a (cmap.place + 2)) fits)))

-- ---- the map that is chosen

-- how many bytes an entry of a map has
abbrev pub entry_bytes : MapFormat → ℕ
entry_bytes Ranges = 8
entry_bytes Groups = 12

-- The map ends with the table, and its entries lie in it.
abbrev pub IsMapOf : Table → CharacterMap → Type 0
IsMapOf cmap m = (cmap.place ≤ m.place) × ((m.end ≡ table_end cmap) × (m.place + 16 + entry_bytes m.format * m.count ≤ table_end cmap))

groups_same : (a b : List ℕ) (cmap : Table) (choice : Choice) → AgreeOnTable a b cmap → IsChosen cmap choice → AreSameReadings (IsMapOf cmap) (groups_map a cmap choice) (groups_map b cmap choice)
groups_same a b cmap choice h (low, begins) =
    test_same (IsMapOf cmap) (nat_lt (table_end cmap) (choice.place + 16)) (nat_lt (table_end cmap) (choice.place + 16)) _ _ _ _ refl (λ _. both_refused (IsMapOf cmap) _) (λ head.
    let room : choice.place + 16 ≤ table_end cmap = ltb-false (table_end cmap) (choice.place + 16) head in
    behind_number (IsMapOf cmap) _
    (λ n. cond (nat_lt (table_end cmap) (choice.place + 16 + 12 * n)) (Err (BadFont (choice.place + 12) BadMap)) (Ok (record { format = Groups; place = choice.place; end = table_end cmap; count = n; is_symbol = choice.rank == symbol_rank })))
    (u32_at a (choice.place + 12)) (u32_at b (choice.place + 12)) (u32_same a b cmap.place (table_end cmap) (choice.place + 12) h (omega arith) (omega (arith, room)))
    (test_same (IsMapOf cmap) (nat_lt (table_end cmap) (choice.place + 16 + 12 * u32_at a (choice.place + 12))) (nat_lt (table_end cmap) (choice.place + 16 + 12 * u32_at a (choice.place + 12))) _ _ _ _ refl
    (λ _. both_refused (IsMapOf cmap) _) (λ fits. record { same = refl; holds = (low, (refl, ltb-false (table_end cmap) (choice.place + 16 + 12 * u32_at a (choice.place + 12)) fits)) })))

ranges_same : (a b : List ℕ) (cmap : Table) (choice : Choice) → AgreeOnTable a b cmap → IsChosen cmap choice → AreSameReadings (IsMapOf cmap) (ranges_map a cmap choice) (ranges_map b cmap choice)
ranges_same a b cmap choice h (low, begins) =
    test_same (IsMapOf cmap) (nat_lt (table_end cmap) (choice.place + 14)) (nat_lt (table_end cmap) (choice.place + 14)) _ _ _ _ refl (λ _. both_refused (IsMapOf cmap) _) (λ head.
    let room : choice.place + 14 ≤ table_end cmap = ltb-false (table_end cmap) (choice.place + 14) head in
    behind_number (IsMapOf cmap) _
    (λ n. cond (nat_lt (table_end cmap) (choice.place + 16 + 8 * (n / 2))) (Err (BadFont (choice.place + 6) BadMap)) (Ok (record { format = Ranges; place = choice.place; end = table_end cmap; count = n / 2; is_symbol = choice.rank == symbol_rank })))
    (u16_at a (choice.place + 6)) (u16_at b (choice.place + 6)) (u16_same a b cmap.place (table_end cmap) (choice.place + 6) h (omega arith) (omega (arith, room)))
    (test_same (IsMapOf cmap) (nat_lt (table_end cmap) (choice.place + 16 + 8 * (u16_at a (choice.place + 6) / 2))) (nat_lt (table_end cmap) (choice.place + 16 + 8 * (u16_at a (choice.place + 6) / 2))) _ _ _ _ refl
    (λ _. both_refused (IsMapOf cmap) _) (λ fits. record { same = refl; holds = (low, (refl, ltb-false (table_end cmap) (choice.place + 16 + 8 * (u16_at a (choice.place + 6) / 2)) fits)) })))

whole_map_same : (a b : List ℕ) (cmap : Table) (choice : Choice) → AgreeOnTable a b cmap → IsChosen cmap choice → AreSameReadings (IsMapOf cmap) (whole_map a cmap choice) (whole_map b cmap choice)
whole_map_same a b cmap choice h (low, begins) =
    let format : u16_at a choice.place ≡ u16_at b choice.place = u16_same a b cmap.place (table_end cmap) choice.place h low begins in
    test_same (IsMapOf cmap) (u16_at a choice.place == 12) (u16_at b choice.place == 12) _ _ _ _ (ap (λ n. n == 12) format)
    (λ _. groups_same a b cmap choice h (low, begins)) (λ _. ranges_same a b cmap choice h (low, begins))

pub map_of_same : (a b : List ℕ) (cmap : Table) → AgreeOnLong a b 4 cmap → AreSameReadings (IsMapOf cmap) (map_of a cmap) (map_of b cmap)
map_of_same a b cmap h =
    then_same (IsChosen cmap) (IsMapOf cmap) (chosen_map a cmap) (chosen_map b cmap) (whole_map a cmap) (whole_map b cmap) (chosen_same a b cmap h) (λ choice chosen. whole_map_same a b cmap choice h.0 chosen)

-- ---- its segments

segment_in_same : (format : MapFormat) (a b : List ℕ) (from to : ℕ) (m : CharacterMap) (k low before : ℕ) → AgreeOn a b from to → from ≤ m.place → m.place + 16 + entry_bytes format * m.count ≤ to → k < m.count →
    segment_in format a m k low before ≡ segment_in format b m k low before
segment_in_same Groups a b from to m k low before h under whole less =
    let room : m.place + 16 + 12 * m.count ≤ to = whole in
    let first : u32_at a (group_place m k) ≡ u32_at b (group_place m k) = u32_same a b from to (group_place m k) h (omega arith) (omega (arith, room)) in
    let last : u32_at a (group_place m k + 4) ≡ u32_at b (group_place m k + 4) = u32_same a b from to (group_place m k + 4) h (omega arith) (omega (arith, room)) in
    rw (first, last)
segment_in_same Ranges a b from to m k low before h under whole less =
    let room : m.place + 16 + 8 * m.count ≤ to = whole in
    let first : u16_at a (first_code_place m k) ≡ u16_at b (first_code_place m k) = u16_same a b from to (first_code_place m k) h (omega arith) (omega (arith, room)) in
    let last : u16_at a (last_code_place m k) ≡ u16_at b (last_code_place m k) = u16_same a b from to (last_code_place m k) h (omega arith) (omega (arith, room)) in
    rw (first, last)

reads_anything : {T : Type 0} (r : Result T SfntRefusal) → IfOk r IsAnything
reads_anything (Ok x) = tt
reads_anything (Err refusal) = tt

-- so many segments
abbrev pub AreSegments : ℕ → List Segment → Type 0
AreSegments n segments = length segments ≡ n

segments_from_same : (a b : List ℕ) (cmap : Table) (m : CharacterMap) (k n low before : ℕ) → AgreeOnTable a b cmap → IsMapOf cmap m → k + n ≤ m.count →
    AreSameReadings (AreSegments n) (segments_from a m k n low before) (segments_from b m k n low before)
segments_from_same a b cmap m k zero low before h is fits = record { same = refl; holds = refl }
segments_from_same a b cmap m k (suc n) low before h is fits =
    then_same IsAnything (AreSegments (suc n)) (segment_at a m k low before) (segment_at b m k low before) _ _
    (record { same = segment_in_same m.format a b cmap.place (table_end cmap) m k low before h is.0 is.1.1 (omega arith); holds = reads_anything (segment_at a m k low before) }) (λ segment _.
    then_same (AreSegments n) (AreSegments (suc n)) (segments_from a m (k + 1) n (segment.last + 1) (codes_to segment)) (segments_from b m (k + 1) n (segment.last + 1) (codes_to segment)) _ _
    (segments_from_same a b cmap m (k + 1) n (segment.last + 1) (codes_to segment) h is (omega arith)) (λ rest count. record { same = refl; holds = ap suc count }))

pub segments_same : (a b : List ℕ) (cmap : Table) (m : CharacterMap) → AgreeOnTable a b cmap → IsMapOf cmap m → AreSameReadings (AreSegments m.count) (segments_of a m) (segments_of b m)
segments_same a b cmap m h is = segments_from_same a b cmap m 0 m.count 0 0 h is (omega arith)
