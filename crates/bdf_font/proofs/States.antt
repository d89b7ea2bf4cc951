-- What the reader has read behind a front, and what its next step does there.
use Rattle.std.proofs.Common.{◌≡◌, ℕ, ◌-◌, ◌*◌, ◌<◌, ◌≤◌, ◌==◌, ◌&&◌, ◌⊎◌, inl, inr, List, [], ◌∷◌, ◌++◌, length, flat_map, Bool, true, false, cond, leb, Option, Some, None, IsSome, unwrap_or, is_some, Result, Ok, Err, IsOk, refl, ap, sym, ◌∙◌, arith, ℤ, pos, append-nil, length-append}
use Rattle.std.proofs.lemmas.Bool.{lt-leb}
use Rattle.std.specs.List.{list_all}
use Rattle.std.proofs.lemmas.List.Concat.{flat_map-append}
use Rattle.std.proofs.lemmas.List.Sums.{AllPass-from_list_all, list_all-from_AllPass}
use Rattle.std.proofs.lemmas.Bool.Decides.{nat_tests}
use Rattle.hex.specs.Hex.{is_hex_digit, decode_sized}
use Rattle.hex.specs.declared.error.FromHexError.{FromHexError}
use Rattle.hex.proofs.HexLemmas.{IsOk-decode_sized}
use Rattle.ass_num.specs.Blanks.{trimmed}
use Rattle.bdf_font.specs.Limits.{max_glyphs}
use Rattle.bdf_font.specs.Words.{first_word, after_word}
use Rattle.bdf_font.specs.Keywords.{keyword_of}
use Rattle.bdf_font.specs.declared.cause.FontCause.{FontCause}
use Rattle.bdf_font.specs.declared.cause.FontCause.TheVariants.{NoStart, BadNumber, BadRow, Misplaced}
use Rattle.bdf_font.specs.declared.glyphs.FontGlyph.{FontGlyph}
use Rattle.bdf_font.specs.declared.glyphs.BoundingBox.{BoundingBox}
use Rattle.bdf_font.specs.declared.header.Header.{Header}
use Rattle.bdf_font.specs.declared.reading.Reading.{Reading}
use Rattle.bdf_font.specs.declared.reading.Draft.{Draft}
use Rattle.bdf_font.specs.declared.reading.LinePlace.TheVariants as place
use Rattle.bdf_font.specs.declared.keyword.Keyword.{Keyword}
use Rattle.bdf_font.specs.declared.keyword.Keyword.TheVariants as keyword
use Rattle.bdf_font.specs.declared.keyword.GlyphKeyword.TheVariants as in_glyph
use Rattle.bdf_font.specs.declared.keyword.HeaderKeyword.TheVariants as in_header
use Rattle.bdf_font.specs.Grammar.{Open, Outside, InGlyph, InBitmap, Front, Unbegun, Begun, says, is_read, is_passed, is_single, is_in_head, is_row, row_bytes, row_len, bytes_or_none, cell_said, cell_of, no_cell, glyph_in, glyphs_of, font_lines, open_after, start_fault, single_fault, head_fault, number_fault, after_rows_fault, bitmap_fault}
use Rattle.bdf_font.specs.Rows.{Next, Fault, Full, outcome_map}
use Rattle.bdf_font.specs.Steps.{no_font_lines, no_header, no_glyph, first_line, font_step, glyph_line, bitmap_line, bitmap_begun, with_row, row_line, after_rows, reading_after, made_glyph, advance_or}
use Rattle.bdf_font.proofs.Given.{header_of, draft_of, header_with, draft_with, header_of-push, draft_of-push, header_read, header_unread, encoding_read, width_read, cell_read, encoding_unread, width_unread, cell_unread}

-- ---- states

abbrev pub outside_at : Header → List FontGlyph → Reading
outside_at h glyphs = record { place = place.Font; header = h; glyphs = glyphs; draft = no_glyph }

abbrev pub glyph_at : Header → List FontGlyph → Draft → Reading
glyph_at h glyphs d = record { place = place.Glyph; header = h; glyphs = glyphs; draft = d }

abbrev pub bitmap_at : Header → List FontGlyph → Draft → BoundingBox → ℕ → List (List ℕ) → Reading
bitmap_at h glyphs d cell left rows = record { place = place.Bitmap cell left; header = h; glyphs = glyphs; draft = record d { bits = flat_map (row_bytes (row_len cell.w)) rows } }

-- behind these lines and glyphs, in this part
abbrev pub state_in : List (List ℕ) → List FontGlyph → Open → Reading
state_in lines glyphs Outside = outside_at (header_of lines) glyphs
state_in lines glyphs (InGlyph start head) = glyph_at (header_of lines) glyphs (draft_of head)
state_in lines glyphs (InBitmap start head bitmap rows) = bitmap_at (header_of lines) glyphs (draft_of head) (cell_of head) ((cell_of head).h - length rows) rows

abbrev pub state_of : Front → Reading
state_of (Unbegun before) = no_font_lines
state_of (Begun before start blocks part) = state_in (font_lines blocks part) (glyphs_of blocks) part

-- ---- before STARTFONT

pub passed_next : (kind : Keyword) → is_passed kind ≡ true → first_line kind no_font_lines ≡ Next no_font_lines
passed_next keyword.StartFont h = absurd cc
passed_next keyword.EndFont h = absurd cc
passed_next keyword.StartChar h = absurd cc
passed_next (keyword.Glyph kind) h = absurd cc
passed_next (keyword.Header in_header.Name) h = absurd cc
passed_next (keyword.Header in_header.Box) h = absurd cc
passed_next (keyword.Header in_header.StartProperties) h = absurd cc
passed_next (keyword.Header in_header.EndProperties) h = absurd cc
passed_next (keyword.Header (in_header.Property kind)) h = refl
passed_next keyword.Unknown h = refl

pub start_next : (kind : Keyword) → kind ≡ keyword.StartFont → first_line kind no_font_lines ≡ Next (outside_at no_header [])
start_next kind e = ap (λ k. first_line k no_font_lines) e

pub start_stops : (kind : Keyword) (cause : FontCause) → start_fault kind ≡ Some cause → first_line kind no_font_lines ≡ Fault cause
start_stops keyword.StartFont cause h = absurd cc
start_stops keyword.EndFont cause h = cc
start_stops keyword.StartChar cause h = cc
start_stops (keyword.Glyph kind) cause h = cc
start_stops (keyword.Header in_header.Name) cause h = cc
start_stops (keyword.Header in_header.Box) cause h = cc
start_stops (keyword.Header in_header.StartProperties) cause h = cc
start_stops (keyword.Header in_header.EndProperties) cause h = cc
start_stops (keyword.Header (in_header.Property kind)) cause h = absurd cc
start_stops keyword.Unknown cause h = absurd cc

-- ---- outside glyphs

-- a number that isn't read is the fault
unread : (on : Bool) (kind : Keyword) (rest : List ℕ) (cause : FontCause) → number_fault on kind rest ≡ Some cause → (is_read on kind rest ≡ false) × (cause ≡ BadNumber)
unread on kind rest cause h = cases (is_read on kind rest) h
  where
    cases : (b : Bool) → cond b None (Some BadNumber) ≡ Some cause → (b ≡ false) × (cause ≡ BadNumber)
    cases true h = absurd cc
    cases false h = (refl, cc)

pub single_next : (kind : Keyword) (rest : List ℕ) (h : Header) (glyphs : List FontGlyph) → is_single kind ≡ true → is_read h.properties kind rest ≡ true → font_step kind rest (outside_at h glyphs) ≡ Next (outside_at (header_with kind rest h) glyphs)
single_next keyword.StartFont rest h glyphs s r = refl
single_next keyword.EndFont rest h glyphs s r = absurd cc
single_next keyword.StartChar rest h glyphs s r = absurd cc
single_next (keyword.Glyph kind) rest h glyphs s r = absurd cc
single_next (keyword.Header kind) rest h glyphs s r = ap (outcome_map (λ header. outside_at header glyphs)) (header_read kind rest h r)
single_next keyword.Unknown rest h glyphs s r = refl

pub glyph_next : (kind : Keyword) (rest : List ℕ) (h : Header) (glyphs : List FontGlyph) → kind ≡ keyword.StartChar → length glyphs < max_glyphs → font_step kind rest (outside_at h glyphs) ≡ Next (glyph_at h glyphs no_glyph)
glyph_next kind rest h glyphs e few =
    ap (λ k. font_step k rest (outside_at h glyphs)) e
    ∙ ap (λ b. cond b Full (Next (glyph_at h glyphs no_glyph))) (lt-leb max_glyphs (length glyphs) few)

pub full_stops : (kind : Keyword) (rest : List ℕ) (h : Header) (glyphs : List FontGlyph) → kind ≡ keyword.StartChar → length glyphs ≡ max_glyphs → font_step kind rest (outside_at h glyphs) ≡ Full
full_stops kind rest h glyphs e full =
    ap (λ k. font_step k rest (outside_at h glyphs)) e
    ∙ ap (λ n. cond (leb max_glyphs n) Full (Next (glyph_at h glyphs no_glyph))) full

pub font_stops : (kind : Keyword) (rest : List ℕ) (h : Header) (glyphs : List FontGlyph) (cause : FontCause) → single_fault h.properties kind rest ≡ Some cause → font_step kind rest (outside_at h glyphs) ≡ Fault cause
font_stops keyword.StartFont rest h glyphs cause f = absurd cc
font_stops keyword.EndFont rest h glyphs cause f = absurd cc
font_stops keyword.StartChar rest h glyphs cause f = absurd cc
font_stops (keyword.Glyph kind) rest h glyphs cause f = cc
font_stops (keyword.Header kind) rest h glyphs cause f =
    let u = unread h.properties (keyword.Header kind) rest cause f in
    ap (outcome_map (λ header. outside_at header glyphs)) (header_unread kind rest h u.0) ∙ ap Fault (sym u.1)
font_stops keyword.Unknown rest h glyphs cause f = absurd cc

-- ---- in a glyph

pub head_next : (kind : Keyword) (rest : List ℕ) (h : Header) (glyphs : List FontGlyph) (d : Draft) → is_in_head kind ≡ true → is_read h.properties kind rest ≡ true → glyph_line kind rest (glyph_at h glyphs d) ≡ Next (glyph_at (header_with kind rest h) glyphs (draft_with kind rest d))
head_next keyword.StartFont rest h glyphs d s r = refl
head_next keyword.EndFont rest h glyphs d s r = absurd cc
head_next keyword.StartChar rest h glyphs d s r = absurd cc
head_next (keyword.Glyph in_glyph.Encoding) rest h glyphs d s r = ap (outcome_map (λ draft. glyph_at h glyphs draft)) (encoding_read rest d h.properties r)
head_next (keyword.Glyph in_glyph.Width) rest h glyphs d s r = ap (outcome_map (λ draft. glyph_at h glyphs draft)) (width_read rest d h.properties r)
head_next (keyword.Glyph in_glyph.Box) rest h glyphs d s r = ap (outcome_map (λ draft. glyph_at h glyphs draft)) (cell_read rest d h.properties r)
head_next (keyword.Glyph in_glyph.Bitmap) rest h glyphs d s r = absurd cc
head_next (keyword.Glyph in_glyph.EndChar) rest h glyphs d s r = absurd cc
head_next (keyword.Header kind) rest h glyphs d s r = ap (outcome_map (λ header. glyph_at header glyphs d)) (header_read kind rest h r)
head_next keyword.Unknown rest h glyphs d s r = refl

pub head_stops : (kind : Keyword) (rest : List ℕ) (h : Header) (glyphs : List FontGlyph) (d : Draft) (cause : FontCause) → head_fault h.properties d.bounding_box kind rest ≡ Some cause → glyph_line kind rest (glyph_at h glyphs d) ≡ Fault cause
head_stops keyword.StartFont rest h glyphs d cause f = absurd cc
head_stops keyword.EndFont rest h glyphs d cause f = cc
head_stops keyword.StartChar rest h glyphs d cause f = cc
head_stops (keyword.Glyph in_glyph.Encoding) rest h glyphs d cause f =
    let u = unread h.properties (keyword.Glyph in_glyph.Encoding) rest cause f in
    ap (outcome_map (λ draft. glyph_at h glyphs draft)) (encoding_unread rest d h.properties u.0) ∙ ap Fault (sym u.1)
head_stops (keyword.Glyph in_glyph.Width) rest h glyphs d cause f =
    let u = unread h.properties (keyword.Glyph in_glyph.Width) rest cause f in
    ap (outcome_map (λ draft. glyph_at h glyphs draft)) (width_unread rest d h.properties u.0) ∙ ap Fault (sym u.1)
head_stops (keyword.Glyph in_glyph.Box) rest h glyphs d cause f =
    let u = unread h.properties (keyword.Glyph in_glyph.Box) rest cause f in
    ap (outcome_map (λ draft. glyph_at h glyphs draft)) (cell_unread rest d h.properties u.0) ∙ ap Fault (sym u.1)
head_stops (keyword.Glyph in_glyph.Bitmap) rest h glyphs d cause f = cases d.bounding_box f
  where
    cases : (cell : Option BoundingBox) → cond (is_some cell) None (Some Misplaced) ≡ Some cause → bitmap_begun cell (glyph_at h glyphs d) ≡ Fault cause
    cases None f = cc
    cases (Some cell) f = absurd cc
head_stops (keyword.Glyph in_glyph.EndChar) rest h glyphs d cause f = cc
head_stops (keyword.Header kind) rest h glyphs d cause f =
    let u = unread h.properties (keyword.Header kind) rest cause f in
    ap (outcome_map (λ header. glyph_at header glyphs d)) (header_unread kind rest h u.0) ∙ ap Fault (sym u.1)
head_stops keyword.Unknown rest h glyphs d cause f = absurd cc

-- a box that is there is the glyph's
pub said_is : (o : Option BoundingBox) → IsSome o → o ≡ Some (unwrap_or o no_cell)
said_is None s = absurd cc
said_is (Some cell) s = refl

pub bitmap_next : (kind : Keyword) (rest : List ℕ) (h : Header) (glyphs : List FontGlyph) (d : Draft) (cell : BoundingBox) → kind ≡ keyword.Glyph in_glyph.Bitmap → d.bounding_box ≡ Some cell → glyph_line kind rest (glyph_at h glyphs d) ≡ Next (bitmap_at h glyphs d cell cell.h [])
bitmap_next kind rest h glyphs d cell e box =
    ap (λ k. glyph_line k rest (glyph_at h glyphs d)) e
    ∙ ap (λ o. bitmap_begun o (glyph_at h glyphs d)) box

-- ---- in a bitmap

digits_of : (len : ℕ) (text : List ℕ) → ((length text == 2 * len) && list_all is_hex_digit text) ≡ true → (length text ≡ 2 * len) × (list_all is_hex_digit text ≡ true)
digits_of len text h = cases (length text == 2 * len) (list_all is_hex_digit text) refl h
  where
    cases : (a b : Bool) → (length text == 2 * len) ≡ a → (a && b) ≡ true → (length text ≡ 2 * len) × (b ≡ true)
    cases true b e h = (grind (arith, nat_tests), h)
    cases false b e h = absurd cc

ok_of : (r : Result (List ℕ) FromHexError) → IsOk r → r ≡ Ok (bytes_or_none r)
ok_of (Ok bytes) s = refl
ok_of (Err e) s = absurd cc

row_decoded : (len : ℕ) (line : List ℕ) → is_row len line ≡ true → decode_sized (trimmed line) len ≡ Ok (row_bytes len line)
row_decoded len line h =
    let digits = digits_of len (trimmed line) h in
    ok_of (decode_sized (trimmed line) len) ((IsOk-decode_sized (trimmed line) len).1 (digits.0, AllPass-from_list_all is_hex_digit (trimmed line) digits.1))

both : (text : List ℕ) (len : ℕ) → length text ≡ 2 * len → list_all is_hex_digit text ≡ true → ((length text == 2 * len) && list_all is_hex_digit text) ≡ true
both text len a b = rw b (grind (arith, nat_tests))

row_refused : (cell : BoundingBox) (left len : ℕ) (line : List ℕ) (reading : Reading) → is_row len line ≡ false → with_row cell left (decode_sized (trimmed line) len) reading ≡ Fault BadRow
row_refused cell left len line reading h = cases (decode_sized (trimmed line) len) refl
  where
    cases : (r : Result (List ℕ) FromHexError) → decode_sized (trimmed line) len ≡ r → with_row cell left r reading ≡ Fault BadRow
    cases (Err e) is = refl
    cases (Ok bytes) is =
        let ok : IsOk (decode_sized (trimmed line) len) = rw is refl in
        let digits = (IsOk-decode_sized (trimmed line) len).0 ok in
        let row : is_row len line ≡ true = both (trimmed line) len digits.0 (list_all-from_AllPass is_hex_digit (trimmed line) digits.1) in
        absurd (cc (row, h))

rows_pushed : (len : ℕ) (rows : List (List ℕ)) (line : List ℕ) → flat_map (row_bytes len) (rows ++ line ∷ []) ≡ flat_map (row_bytes len) rows ++ row_bytes len line
rows_pushed len rows line = flat_map-append (row_bytes len) rows (line ∷ []) ∙ ap (λ xs. flat_map (row_bytes len) rows ++ xs) (append-nil (row_bytes len line))

pub row_next : (line : List ℕ) (h : Header) (glyphs : List FontGlyph) (d : Draft) (cell : BoundingBox) (left : ℕ) (rows : List (List ℕ)) → 0 < left → is_row (row_len cell.w) line ≡ true →
    bitmap_line cell left line (bitmap_at h glyphs d cell left rows) ≡ Next (bitmap_at h glyphs d cell (left - 1) (rows ++ line ∷ []))
row_next line h glyphs d cell left rows some row =
    let before = bitmap_at h glyphs d cell left rows in
    let more : (left == 0) ≡ false = grind (arith, nat_tests) in
    ap (λ b. cond b (after_rows cell (keyword_of (first_word line)) before) (row_line cell (left - 1) (trimmed line) before)) more
    ∙ ap (λ r. with_row cell (left - 1) r before) (row_decoded (row_len cell.w) line row)
    ∙ ap (λ bits. Next (record { place = place.Bitmap cell (left - 1); header = h; glyphs = glyphs; draft = record d { bits = bits } })) (sym (rows_pushed (row_len cell.w) rows line))

pub advance_is : (o : Option ℤ) (w : ℕ) → advance_or o w ≡ unwrap_or o (pos w)
advance_is None w = refl
advance_is (Some a) w = refl

-- the glyph that the reader makes is the block's
pub made_is : (head rows : List (List ℕ)) → made_glyph (record (draft_of head) { bits = flat_map (row_bytes (row_len (cell_of head).w)) rows }) (cell_of head) ≡ glyph_in head rows
made_is head rows = rw advance_is refl

pub end_next : (line : List ℕ) (h : Header) (glyphs : List FontGlyph) (head : List (List ℕ)) (left : ℕ) (rows : List (List ℕ)) → left ≡ 0 → says line ≡ keyword.Glyph in_glyph.EndChar →
    bitmap_line (cell_of head) left line (bitmap_at h glyphs (draft_of head) (cell_of head) left rows) ≡ Next (outside_at h (glyphs ++ glyph_in head rows ∷ []))
end_next line h glyphs head left rows none e =
    let before = bitmap_at h glyphs (draft_of head) (cell_of head) left rows in
    let over : (left == 0) ≡ true = grind (arith, nat_tests) in
    ap (λ b. cond b (after_rows (cell_of head) (keyword_of (first_word line)) before) (row_line (cell_of head) (left - 1) (trimmed line) before)) over
    ∙ ap (λ k. after_rows (cell_of head) k before) e
    ∙ ap (λ g. Next (outside_at h (glyphs ++ g ∷ []))) (made_is head rows)

after_rows_stops : (kind : Keyword) (cell : BoundingBox) (reading : Reading) (cause : FontCause) → after_rows_fault kind ≡ Some cause → after_rows cell kind reading ≡ Fault cause
after_rows_stops keyword.StartFont cell reading cause f = cc
after_rows_stops keyword.EndFont cell reading cause f = cc
after_rows_stops keyword.StartChar cell reading cause f = cc
after_rows_stops (keyword.Glyph in_glyph.Encoding) cell reading cause f = cc
after_rows_stops (keyword.Glyph in_glyph.Width) cell reading cause f = cc
after_rows_stops (keyword.Glyph in_glyph.Box) cell reading cause f = cc
after_rows_stops (keyword.Glyph in_glyph.Bitmap) cell reading cause f = cc
after_rows_stops (keyword.Glyph in_glyph.EndChar) cell reading cause f = absurd cc
after_rows_stops (keyword.Header kind) cell reading cause f = cc
after_rows_stops keyword.Unknown cell reading cause f = cc

pub bitmap_stops : (line : List ℕ) (h : Header) (glyphs : List FontGlyph) (d : Draft) (cell : BoundingBox) (rows : List (List ℕ)) (cause : FontCause) → length rows ≤ cell.h → bitmap_fault cell (length rows) line ≡ Some cause →
    bitmap_line cell (cell.h - length rows) line (bitmap_at h glyphs d cell (cell.h - length rows) rows) ≡ Fault cause
bitmap_stops line h glyphs d cell rows cause within f = cases (length rows == cell.h) refl f
  where
    before : Reading
    before = bitmap_at h glyphs d cell (cell.h - length rows) rows

    row_cases : (b : Bool) → is_row (row_len cell.w) line ≡ b → cond b None (Some BadRow) ≡ Some cause → row_line cell (cell.h - length rows - 1) (trimmed line) (bitmap_at h glyphs d cell (cell.h - length rows) rows) ≡ Fault cause
    row_cases true e f = absurd cc
    row_cases false e f = row_refused cell (cell.h - length rows - 1) (row_len cell.w) line (bitmap_at h glyphs d cell (cell.h - length rows) rows) e ∙ cc

    cases : (b : Bool) → (length rows == cell.h) ≡ b → cond b (after_rows_fault (says line)) (cond (is_row (row_len cell.w) line) None (Some BadRow)) ≡ Some cause →
        bitmap_line cell (cell.h - length rows) line (bitmap_at h glyphs d cell (cell.h - length rows) rows) ≡ Fault cause
    cases true e f =
        let over : ((cell.h - length rows) == 0) ≡ true = grind (arith, nat_tests) in
        ap (λ b. cond b (after_rows cell (keyword_of (first_word line)) (bitmap_at h glyphs d cell (cell.h - length rows) rows)) (row_line cell (cell.h - length rows - 1) (trimmed line) (bitmap_at h glyphs d cell (cell.h - length rows) rows))) over
        ∙ after_rows_stops (says line) cell (bitmap_at h glyphs d cell (cell.h - length rows) rows) cause f
    cases false e f =
        let more : ((cell.h - length rows) == 0) ≡ false = grind (arith, nat_tests) in
        ap (λ b. cond b (after_rows cell (keyword_of (first_word line)) (bitmap_at h glyphs d cell (cell.h - length rows) rows)) (row_line cell (cell.h - length rows - 1) (trimmed line) (bitmap_at h glyphs d cell (cell.h - length rows) rows))) more
        ∙ row_cases (is_row (row_len cell.w) line) refl f

-- ---- the same steps behind lines

pub single_step : (line : List ℕ) (lines : List (List ℕ)) (glyphs : List FontGlyph) → is_single (says line) ≡ true → is_read (open_after false lines) (says line) (after_word line) ≡ true →
    reading_after line (outside_at (header_of lines) glyphs) ≡ Next (outside_at (header_of (lines ++ line ∷ [])) glyphs)
single_step line lines glyphs s r = single_next (says line) (after_word line) (header_of lines) glyphs s r ∙ ap (λ h. Next (outside_at h glyphs)) (sym (header_of-push lines line))

pub head_step : (line : List ℕ) (lines head : List (List ℕ)) (glyphs : List FontGlyph) → is_in_head (says line) ≡ true → is_read (open_after false lines) (says line) (after_word line) ≡ true →
    reading_after line (glyph_at (header_of lines) glyphs (draft_of head)) ≡ Next (glyph_at (header_of (lines ++ line ∷ [])) glyphs (draft_of (head ++ line ∷ [])))
head_step line lines head glyphs s r =
    head_next (says line) (after_word line) (header_of lines) glyphs (draft_of head) s r
    ∙ (ap (λ h. Next (glyph_at h glyphs (draft_with (says line) (after_word line) (draft_of head)))) (sym (header_of-push lines line))
    ∙ ap (λ d. Next (glyph_at (header_of (lines ++ line ∷ [])) glyphs d)) (sym (draft_of-push head line)))

pub bitmap_step : (line : List ℕ) (lines head : List (List ℕ)) (glyphs : List FontGlyph) → says line ≡ keyword.Glyph in_glyph.Bitmap → IsSome (cell_said head) →
    reading_after line (glyph_at (header_of lines) glyphs (draft_of head)) ≡ Next (bitmap_at (header_of lines) glyphs (draft_of head) (cell_of head) (cell_of head).h [])
bitmap_step line lines head glyphs e some = bitmap_next (says line) (after_word line) (header_of lines) glyphs (draft_of head) (cell_of head) e (said_is (cell_said head) some)

pub row_step : (line : List ℕ) (h : Header) (glyphs : List FontGlyph) (d : Draft) (cell : BoundingBox) (rows : List (List ℕ)) → length rows < cell.h → is_row (row_len cell.w) line ≡ true →
    reading_after line (bitmap_at h glyphs d cell (cell.h - length rows) rows) ≡ Next (bitmap_at h glyphs d cell (cell.h - length (rows ++ line ∷ [])) (rows ++ line ∷ []))
row_step line h glyphs d cell rows room row =
    let less : cell.h - length rows - 1 ≡ cell.h - length (rows ++ line ∷ []) = omega (arith, length-append rows (line ∷ [])) in
    row_next line h glyphs d cell (cell.h - length rows) rows (omega arith) row
    ∙ ap (λ left. Next (bitmap_at h glyphs d cell left (rows ++ line ∷ []))) less

-- ---- where a line leaves the format, the reader stops so

pub state_stops : (lines : List (List ℕ)) (glyphs : List FontGlyph) (line : List ℕ) (cause : FontCause) → single_fault (open_after false lines) (says line) (after_word line) ≡ Some cause → reading_after line (outside_at (header_of lines) glyphs) ≡ Fault cause
state_stops lines glyphs line cause f = font_stops (says line) (after_word line) (header_of lines) glyphs cause f

-- ---- which way a line goes

pub start_cases : (kind : Keyword) → (kind ≡ keyword.StartFont) ⊎ ((is_passed kind ≡ true) ⊎ (start_fault kind ≡ Some NoStart))
start_cases keyword.StartFont = inl refl
start_cases keyword.EndFont = inr (inr refl)
start_cases keyword.StartChar = inr (inr refl)
start_cases (keyword.Glyph kind) = inr (inr refl)
start_cases (keyword.Header in_header.Name) = inr (inr refl)
start_cases (keyword.Header in_header.Box) = inr (inr refl)
start_cases (keyword.Header in_header.StartProperties) = inr (inr refl)
start_cases (keyword.Header in_header.EndProperties) = inr (inr refl)
start_cases (keyword.Header (in_header.Property kind)) = inr (inl refl)
start_cases keyword.Unknown = inr (inl refl)

numbered_in : {B : Type 0} (b : Bool) → ((true ≡ true) × (b ≡ true)) ⊎ (B ⊎ ((cause : FontCause) × (cond b None (Some BadNumber) ≡ Some cause)))
numbered_in true = inl (refl, refl)
numbered_in false = inr (inr (BadNumber, refl))

pub single_cases : (on : Bool) (kind : Keyword) (rest : List ℕ) →
    (kind ≡ keyword.StartChar) ⊎ ((kind ≡ keyword.EndFont) ⊎ (((is_single kind ≡ true) × (is_read on kind rest ≡ true)) ⊎ ((cause : FontCause) × (single_fault on kind rest ≡ Some cause))))
single_cases on keyword.StartFont rest = inr (inr (inl (refl, refl)))
single_cases on keyword.EndFont rest = inr (inl refl)
single_cases on keyword.StartChar rest = inl refl
single_cases on (keyword.Glyph kind) rest = inr (inr (inr (Misplaced, refl)))
single_cases on (keyword.Header kind) rest = inr (inr (numbered (is_read on (keyword.Header kind) rest)))
  where
    numbered : (b : Bool) → ((true ≡ true) × (b ≡ true)) ⊎ ((cause : FontCause) × (cond b None (Some BadNumber) ≡ Some cause))
    numbered true = inl (refl, refl)
    numbered false = inr (BadNumber, refl)
single_cases on keyword.Unknown rest = inr (inr (inl (refl, refl)))

pub head_cases : (on : Bool) (cell : Option BoundingBox) (kind : Keyword) (rest : List ℕ) →
    ((is_in_head kind ≡ true) × (is_read on kind rest ≡ true)) ⊎ (((kind ≡ keyword.Glyph in_glyph.Bitmap) × IsSome cell) ⊎ ((cause : FontCause) × (head_fault on cell kind rest ≡ Some cause)))
head_cases on cell keyword.StartFont rest = inl (refl, refl)
head_cases on cell keyword.EndFont rest = inr (inr (Misplaced, refl))
head_cases on cell keyword.StartChar rest = inr (inr (Misplaced, refl))
head_cases on cell (keyword.Glyph in_glyph.Encoding) rest = numbered_in (is_read on (keyword.Glyph in_glyph.Encoding) rest)
head_cases on cell (keyword.Glyph in_glyph.Width) rest = numbered_in (is_read on (keyword.Glyph in_glyph.Width) rest)
head_cases on cell (keyword.Glyph in_glyph.Box) rest = numbered_in (is_read on (keyword.Glyph in_glyph.Box) rest)
head_cases on None (keyword.Glyph in_glyph.Bitmap) rest = inr (inr (Misplaced, refl))
head_cases on (Some cell) (keyword.Glyph in_glyph.Bitmap) rest = inr (inl (refl, refl))
head_cases on cell (keyword.Glyph in_glyph.EndChar) rest = inr (inr (Misplaced, refl))
head_cases on cell (keyword.Header kind) rest = numbered_in (is_read on (keyword.Header kind) rest)
head_cases on cell keyword.Unknown rest = inl (refl, refl)

pub after_rows_cases : (kind : Keyword) → (kind ≡ keyword.Glyph in_glyph.EndChar) ⊎ (after_rows_fault kind ≡ Some BadRow)
after_rows_cases keyword.StartFont = inr refl
after_rows_cases keyword.EndFont = inr refl
after_rows_cases keyword.StartChar = inr refl
after_rows_cases (keyword.Glyph in_glyph.Encoding) = inr refl
after_rows_cases (keyword.Glyph in_glyph.Width) = inr refl
after_rows_cases (keyword.Glyph in_glyph.Box) = inr refl
after_rows_cases (keyword.Glyph in_glyph.Bitmap) = inr refl
after_rows_cases (keyword.Glyph in_glyph.EndChar) = inl refl
after_rows_cases (keyword.Header kind) = inr refl
after_rows_cases keyword.Unknown = inr refl
