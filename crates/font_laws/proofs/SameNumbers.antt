-- Files that agree on the tables of a font have the same numbers.
use Rattle.std.proofs.Common.{◌≡◌, ℕ, ◌+◌, ◌/◌, ◌≤◌, cond, List, Option, Some, None, Ok, refl, ap, ◌∙◌, arith}
use Rattle.std.specs.Prelude.{◌==◌, IfSome}
use Rattle.sfnt_font.specs.declared.directory.Table.{Table}
use Rattle.sfnt_font.specs.declared.numbers.Bar.{Bar}
use Rattle.sfnt_font.specs.declared.tables.Tables.{Tables}
use Rattle.font_bytes.specs.Bytes.{u16_at, s16_at}
use Rattle.sfnt_font.specs.Directory.{table_named, unless_short, table_end, metrics_name, post_name}
use Rattle.sfnt_font.specs.Numbers.{window_heights, typographic_heights, line_heights, box_heights, font_heights, bar_or, underline_of, strikeout_of, made_numbers, sfnt_numbers, has_low_bit, style_weight, weight_of, is_slanted}
use Rattle.sfnt_font.specs.Laws.{face_directory}
use Rattle.font_laws.specs.Laws.{AgreeOnDirectory}
use Rattle.font_laws.proofs.Agreed.{u16_same, s16_same}
use Rattle.font_laws.proofs.SameTables.{AreSameReadings, AgreeOnLong, AgreeOnTables, long_agrees, named_same, both_refused, test_same}

-- a number of a table on which they agree
pub u16_in_table_same : (a b : List ℕ) (least : ℕ) (table : Table) (i : ℕ) → AgreeOnLong a b least table → i + 2 ≤ least → u16_at a (table.place + i) ≡ u16_at b (table.place + i)
u16_in_table_same a b least table i (h, long) room = u16_same a b table.place (table_end table) (table.place + i) h (omega arith) (omega (arith, long))

s16_in_table_same : (a b : List ℕ) (least : ℕ) (table : Table) (i : ℕ) → AgreeOnLong a b least table → i + 2 ≤ least → s16_at a (table.place + i) ≡ s16_at b (table.place + i)
s16_in_table_same a b least table i (h, long) room = s16_same a b table.place (table_end table) (table.place + i) h (omega arith) (omega (arith, long))

line_same : (a b : List ℕ) (hhea : Table) → AgreeOnLong a b 36 hhea → line_heights a hhea ≡ line_heights b hhea
line_same a b hhea h =
    let up = s16_in_table_same a b 36 hhea 4 h (omega arith) in
    let low = s16_in_table_same a b 36 hhea 6 h (omega arith) in
    cc

box_heights_same : (a b : List ℕ) (head : Table) → AgreeOnLong a b 54 head → box_heights a head ≡ box_heights b head
box_heights_same a b head h =
    let up = s16_in_table_same a b 54 head 42 h (omega arith) in
    let low = s16_in_table_same a b 54 head 38 h (omega arith) in
    cc

window_same : (a b : List ℕ) (metrics : Table) → AgreeOnLong a b 78 metrics → window_heights a metrics ≡ window_heights b metrics
window_same a b metrics h =
    let up = s16_in_table_same a b 78 metrics 74 h (omega arith) in
    let down = s16_in_table_same a b 78 metrics 76 h (omega arith) in
    cc

typographic_same : (a b : List ℕ) (metrics : Table) → AgreeOnLong a b 78 metrics → typographic_heights a metrics ≡ typographic_heights b metrics
typographic_same a b metrics h =
    let up = s16_in_table_same a b 78 metrics 68 h (omega arith) in
    let low = s16_in_table_same a b 78 metrics 70 h (omega arith) in
    cc

heights_same : (a b : List ℕ) (tables : Tables) (metrics : Option Table) → AgreeOnTables a b tables → IfSome metrics (AgreeOnLong a b 78) → font_heights a tables metrics ≡ font_heights b tables metrics
heights_same a b tables None h k =
    let line = line_same a b tables.hhea h.hhea in
    let box = box_heights_same a b tables.head h.head in
    cc
heights_same a b tables (Some metrics) h k =
    let line = line_same a b tables.hhea h.hhea in
    let box = box_heights_same a b tables.head h.head in
    let window = window_same a b metrics k in
    let typographic = typographic_same a b metrics k in
    cc

bar_same : (a b : List ℕ) (least : ℕ) (table : Option Table) (middle size : ℕ) (other : Option Bar) → IfSome table (AgreeOnLong a b least) → middle + 2 ≤ least → size + 2 ≤ least →
    bar_or a table middle size other ≡ bar_or b table middle size other
bar_same a b least None middle size other h room space = refl
bar_same a b least (Some table) middle size other h room space =
    let first = s16_in_table_same a b least table middle h room in
    let second = s16_in_table_same a b least table size h space in
    cc

weight_same : (a b : List ℕ) (head : Table) (metrics : Option Table) → AgreeOnLong a b 54 head → IfSome metrics (AgreeOnLong a b 78) → weight_of a head metrics ≡ weight_of b head metrics
weight_same a b head None h k = ap (λ n. cond (has_low_bit n) 700 400) (u16_in_table_same a b 54 head 44 h (omega arith))
weight_same a b head (Some metrics) h k =
    let style : style_weight a head ≡ style_weight b head = ap (λ n. cond (has_low_bit n) 700 400) (u16_in_table_same a b 54 head 44 h (omega arith)) in
    let weight : u16_at a (metrics.place + 4) ≡ u16_at b (metrics.place + 4) = u16_in_table_same a b 78 metrics 4 k (omega arith) in
    cc

slant_same : (a b : List ℕ) (head : Table) (metrics : Option Table) → AgreeOnLong a b 54 head → IfSome metrics (AgreeOnLong a b 78) → is_slanted a head metrics ≡ is_slanted b head metrics
slant_same a b head None h k = ap (λ n. has_low_bit (n / 2)) (u16_in_table_same a b 54 head 44 h (omega arith))
slant_same a b head (Some metrics) h k = ap has_low_bit (u16_in_table_same a b 78 metrics 62 k (omega arith))

made_same : (a b : List ℕ) (tables : Tables) (metrics post : Option Table) → AgreeOnTables a b tables → IfSome metrics (AgreeOnLong a b 78) → IfSome post (AgreeOnLong a b 12) →
    made_numbers a tables metrics post ≡ made_numbers b tables metrics post
made_same a b tables metrics post h metrics_agree post_agrees =
    let units : u16_at a (tables.head.place + 18) ≡ u16_at b (tables.head.place + 18) = u16_in_table_same a b 54 tables.head 18 h.head (omega arith) in
    let glyphs : u16_at a (tables.maxp.place + 4) ≡ u16_at b (tables.maxp.place + 4) = u16_in_table_same a b 6 tables.maxp 4 h.maxp (omega arith) in
    let wide : u16_at a (tables.head.place + 50) ≡ u16_at b (tables.head.place + 50) = u16_in_table_same a b 54 tables.head 50 h.head (omega arith) in
    let advances : u16_at a (tables.hhea.place + 34) ≡ u16_at b (tables.hhea.place + 34) = u16_in_table_same a b 36 tables.hhea 34 h.hhea (omega arith) in
    let heights : font_heights a tables metrics ≡ font_heights b tables metrics = heights_same a b tables metrics h metrics_agree in
    let underline : underline_of a (u16_at b (tables.head.place + 18)) post ≡ underline_of b (u16_at b (tables.head.place + 18)) post = bar_same a b 12 post 8 10 _ post_agrees (omega arith) (omega arith) in
    let strikeout : strikeout_of a (u16_at b (tables.head.place + 18)) metrics ≡ strikeout_of b (u16_at b (tables.head.place + 18)) metrics = bar_same a b 78 metrics 28 26 _ metrics_agree (omega arith) (omega arith) in
    let weight : weight_of a tables.head metrics ≡ weight_of b tables.head metrics = weight_same a b tables.head metrics h.head metrics_agree in
    let slanted : is_slanted a tables.head metrics ≡ is_slanted b tables.head metrics = slant_same a b tables.head metrics h.head metrics_agree in
    rw (units, glyphs, wide, advances, heights, underline, strikeout, weight, slanted)

numbers-step : (a b : List ℕ) (place : ℕ) (tables : Tables) → AgreeOnDirectory a b place → AgreeOnTables a b tables →
    made_numbers a tables (unless_short 78 (table_named a (face_directory a place) metrics_name)) (unless_short 12 (table_named a (face_directory a place) post_name))
    ≡ made_numbers b tables (unless_short 78 (table_named b (face_directory a place) metrics_name)) (unless_short 12 (table_named b (face_directory a place) post_name))
numbers-step a b place tables h k =
    made_same a b tables (unless_short 78 (table_named a (face_directory a place) metrics_name)) (unless_short 12 (table_named a (face_directory a place) post_name)) k
    (long_agrees a b 78 (table_named a (face_directory a place) metrics_name) h.metrics) (long_agrees a b 12 (table_named a (face_directory a place) post_name) h.post)
    ∙ (ap (λ o. made_numbers b tables (unless_short 78 o) (unless_short 12 (table_named a (face_directory a place) post_name))) (named_same a b place metrics_name h)
    ∙ ap (λ o. made_numbers b tables (unless_short 78 (table_named b (face_directory a place) metrics_name)) (unless_short 12 o)) (named_same a b place post_name h))

-- any value
abbrev pub IsAnything : {T : Type 0} → T → Type 0
IsAnything x = Unit {0}

pub numbers_same : (a b : List ℕ) (place : ℕ) (tables : Tables) → AgreeOnDirectory a b place → AgreeOnTables a b tables →
    AreSameReadings IsAnything (sfnt_numbers a (face_directory a place) tables) (sfnt_numbers b (face_directory a place) tables)
numbers_same a b place tables h k =
    test_same IsAnything (u16_at a (tables.head.place + 18) == 0) (u16_at b (tables.head.place + 18) == 0) _ _ _ _
    (ap (λ n. n == 0) (u16_in_table_same a b 54 tables.head 18 k.head (omega arith))) (λ _. both_refused IsAnything _) (λ _.
    test_same IsAnything (u16_at a (tables.maxp.place + 4) == 0) (u16_at b (tables.maxp.place + 4) == 0) _ _ _ _
    (ap (λ n. n == 0) (u16_in_table_same a b 6 tables.maxp 4 k.maxp (omega arith))) (λ _. both_refused IsAnything _) (λ _.
    record { same = ap Ok (numbers-step a b place tables h k); holds = tt }))
