-- The reader comes through the front of a text to what was read behind it.
use Rattle.std.proofs.Common.{◌≡◌, ℕ, ◌+◌, ◌-◌, ◌<◌, ◌≤◌, List, [], ◌∷◌, ◌++◌, length, flat_map, Bool, false, Some, refl, ap, ◌∙◌, subst, arith, append-nil, append_assoc, length-append}
use Rattle.std.specs.List.{AllByRecursion}
use Rattle.bdf_font.specs.Limits.{max_glyphs}
use Rattle.bdf_font.specs.Words.{after_word}
use Rattle.bdf_font.specs.declared.cause.FontCause.{FontCause}
use Rattle.bdf_font.specs.declared.glyphs.FontGlyph.{FontGlyph}
use Rattle.bdf_font.specs.declared.glyphs.BoundingBox.{BoundingBox}
use Rattle.bdf_font.specs.declared.header.Header.{Header}
use Rattle.bdf_font.specs.declared.reading.Reading.{Reading}
use Rattle.bdf_font.specs.declared.reading.Draft.{Draft}
use Rattle.bdf_font.specs.Grammar.{Block, Single, Glyph, Open, Outside, InGlyph, InBitmap, Front, Unbegun, Begun, says, switched, open_after, lines_in, open_lines, front_lines, font_lines_in, head_of, font_lines, glyphs_in, glyphs_of, cell_of, row_len, AllRead, ArePassed, AreInHead, AreRows, IsBlock, IsOpen, IsSoundFront, begun_in, fault_after}
use Rattle.bdf_font.specs.Rows.{Next, Fault}
use Rattle.bdf_font.specs.Steps.{no_font_lines, reading_after}
use Rattle.bdf_font.proofs.Walk.{lines_read, read_at}
use Rattle.bdf_font.proofs.Given.{header_of, draft_of, open_after-push}
use Rattle.bdf_font.proofs.States.{outside_at, glyph_at, bitmap_at, state_in, state_of, passed_next, start_next, glyph_next, start_stops, head_stops, bitmap_stops, state_stops, single_step, head_step, bitmap_step, row_step, end_next}

-- The reader goes over these lines from one state to another, whatever follows them.
abbrev pub Reaches : List (List ℕ) → Reading → Reading → Type 0
Reaches lines from to = (n : ℕ) (rest : List (List ℕ)) → lines_read n (lines ++ rest) from ≡ lines_read (n + length lines) rest to

reach_none : (s : Reading) → Reaches [] s s
reach_none s n rest = ap (λ k. lines_read k rest s) (omega arith)

reach_one : (line : List ℕ) (s t : Reading) → reading_after line s ≡ Next t → Reaches (line ∷ []) s t
reach_one line s t e n rest = read_at n line rest s (Next t) e

reach_then : (xs ys : List (List ℕ)) (s t u : Reading) → Reaches xs s t → Reaches ys t u → Reaches (xs ++ ys) s u
reach_then xs ys s t u f g n rest =
    ap (λ zs. lines_read n zs s) (append_assoc xs ys rest)
    ∙ (f n (ys ++ rest) ∙ (g (n + length xs) rest ∙ ap (λ k. lines_read k rest u) (omega (arith, length-append xs ys))))

reach_more : (line : List ℕ) (ys : List (List ℕ)) (s t u : Reading) → reading_after line s ≡ Next t → Reaches ys t u → Reaches (line ∷ ys) s u
reach_more line ys s t u e g = reach_then (line ∷ []) ys s t u (reach_one line s t e) g

reach_to : (xs : List (List ℕ)) (s t u : Reading) → t ≡ u → Reaches xs s t → Reaches xs s u
reach_to xs s t u e f = subst (λ v. Reaches xs s v) e f

reach_passed : (before : List (List ℕ)) → ArePassed before → Reaches before no_font_lines no_font_lines
reach_passed [] all = reach_none no_font_lines
reach_passed (line ∷ before) all = reach_more line before no_font_lines no_font_lines no_font_lines (passed_next (says line) all.0) (reach_passed before all.1)

-- ---- numbers of lines that follow one another

pub open_after-append : (on : Bool) (xs ys : List (List ℕ)) → open_after on (xs ++ ys) ≡ open_after (open_after on xs) ys
open_after-append on [] ys = refl
open_after-append on (x ∷ xs) ys = open_after-append (switched (says x) on) xs ys

pub AllRead-split : (on : Bool) (xs ys : List (List ℕ)) → AllRead on (xs ++ ys) → AllRead on xs × AllRead (open_after on xs) ys
AllRead-split on [] ys all = (tt, all)
AllRead-split on (x ∷ xs) ys all = let rest = AllRead-split (switched (says x) on) xs ys all.1 in ((all.0, rest.0), rest.1)

-- ---- a glyph

reach_head : (xs lines head : List (List ℕ)) (glyphs : List FontGlyph) → AreInHead xs → AllRead (open_after false lines) xs →
    Reaches xs (glyph_at (header_of lines) glyphs (draft_of head)) (glyph_at (header_of (lines ++ xs)) glyphs (draft_of (head ++ xs)))
reach_head [] lines head glyphs all numbers =
    let here = glyph_at (header_of lines) glyphs (draft_of head) in
    reach_to [] here here (glyph_at (header_of (lines ++ [])) glyphs (draft_of (head ++ []))) (rw (append-nil lines, append-nil head) refl) (reach_none here)
reach_head (x ∷ xs) lines head glyphs all numbers =
    let on : open_after false (lines ++ x ∷ []) ≡ switched (says x) (open_after false lines) = open_after-push false lines x in
    let more : AllRead (open_after false (lines ++ x ∷ [])) xs = rw on numbers.1 in
    let rest = reach_head xs (lines ++ x ∷ []) (head ++ x ∷ []) glyphs all.1 more in
    let there = glyph_at (header_of ((lines ++ x ∷ []) ++ xs)) glyphs (draft_of ((head ++ x ∷ []) ++ xs)) in
    let same : there ≡ glyph_at (header_of (lines ++ x ∷ xs)) glyphs (draft_of (head ++ x ∷ xs)) =
    ap (λ ls. glyph_at (header_of ls) glyphs (draft_of ((head ++ x ∷ []) ++ xs))) (append_assoc lines (x ∷ []) xs)
    ∙ ap (λ ls. glyph_at (header_of (lines ++ x ∷ xs)) glyphs (draft_of ls)) (append_assoc head (x ∷ []) xs) in
    reach_to (x ∷ xs) (glyph_at (header_of lines) glyphs (draft_of head)) there (glyph_at (header_of (lines ++ x ∷ xs)) glyphs (draft_of (head ++ x ∷ xs))) same
    (reach_more x xs (glyph_at (header_of lines) glyphs (draft_of head)) (glyph_at (header_of (lines ++ x ∷ [])) glyphs (draft_of (head ++ x ∷ []))) there (head_step x lines head glyphs all.0 numbers.0) rest)

reach_rows : (xs : List (List ℕ)) (h : Header) (glyphs : List FontGlyph) (d : Draft) (cell : BoundingBox) (rows : List (List ℕ)) → AreRows (row_len cell.w) xs → length rows + length xs ≤ cell.h →
    Reaches xs (bitmap_at h glyphs d cell (cell.h - length rows) rows) (bitmap_at h glyphs d cell (cell.h - length (rows ++ xs)) (rows ++ xs))
reach_rows [] h glyphs d cell rows all room =
    let here = bitmap_at h glyphs d cell (cell.h - length rows) rows in
    reach_to [] here here (bitmap_at h glyphs d cell (cell.h - length (rows ++ [])) (rows ++ [])) (rw (append-nil rows) refl) (reach_none here)
reach_rows (x ∷ xs) h glyphs d cell rows all room =
    let rest = reach_rows xs h glyphs d cell (rows ++ x ∷ []) all.1 (omega (arith, length-append rows (x ∷ []))) in
    let there = bitmap_at h glyphs d cell (cell.h - length ((rows ++ x ∷ []) ++ xs)) ((rows ++ x ∷ []) ++ xs) in
    let same : there ≡ bitmap_at h glyphs d cell (cell.h - length (rows ++ x ∷ xs)) (rows ++ x ∷ xs) =
    ap (λ ls. bitmap_at h glyphs d cell (cell.h - length ls) ls) (append_assoc rows (x ∷ []) xs) in
    reach_to (x ∷ xs) (bitmap_at h glyphs d cell (cell.h - length rows) rows) there (bitmap_at h glyphs d cell (cell.h - length (rows ++ x ∷ xs)) (rows ++ x ∷ xs)) same
    (reach_more x xs (bitmap_at h glyphs d cell (cell.h - length rows) rows) (bitmap_at h glyphs d cell (cell.h - length (rows ++ x ∷ [])) (rows ++ x ∷ [])) there (row_step x h glyphs d cell rows (omega arith) all.0) rest)

reach_begun : (start : List ℕ) (head lines : List (List ℕ)) (glyphs : List FontGlyph) → IsOpen (InGlyph start head) → AllRead (open_after false lines) head → length glyphs < max_glyphs →
    Reaches (start ∷ head) (outside_at (header_of lines) glyphs) (glyph_at (header_of (lines ++ head)) glyphs (draft_of head))
reach_begun start head lines glyphs is numbers room =
    reach_more start head (outside_at (header_of lines) glyphs) (glyph_at (header_of lines) glyphs (draft_of [])) (glyph_at (header_of (lines ++ head)) glyphs (draft_of head))
    (glyph_next (says start) (after_word start) (header_of lines) glyphs is.0 room)
    (reach_head head lines [] glyphs is.1 numbers)

-- what is begun, behind these lines and glyphs
reach_part : (part : Open) (lines : List (List ℕ)) (glyphs : List FontGlyph) → IsOpen part → AllRead (open_after false lines) (head_of part) → length glyphs + begun_in part ≤ max_glyphs →
    Reaches (open_lines part) (outside_at (header_of lines) glyphs) (state_in (lines ++ head_of part) glyphs part)
reach_part Outside lines glyphs is numbers room =
    let here = outside_at (header_of lines) glyphs in
    reach_to [] here here (outside_at (header_of (lines ++ [])) glyphs) (rw (append-nil lines) refl) (reach_none here)
reach_part (InGlyph start head) lines glyphs is numbers room = reach_begun start head lines glyphs is numbers (omega arith)
reach_part (InBitmap start head bitmap rows) lines glyphs is numbers room =
    let middle = glyph_at (header_of (lines ++ head)) glyphs (draft_of head) in
    reach_then (start ∷ head) (bitmap ∷ rows) (outside_at (header_of lines) glyphs) middle (state_in (lines ++ head) glyphs (InBitmap start head bitmap rows))
    (reach_begun start head lines glyphs (is.0, is.1) numbers (omega arith))
    (reach_more bitmap rows middle (bitmap_at (header_of (lines ++ head)) glyphs (draft_of head) (cell_of head) ((cell_of head).h - 0) []) (state_in (lines ++ head) glyphs (InBitmap start head bitmap rows))
    (bitmap_step bitmap (lines ++ head) head glyphs is.2 is.3 ∙ ap (λ n. Next (bitmap_at (header_of (lines ++ head)) glyphs (draft_of head) (cell_of head) n [])) (omega arith))
    (reach_rows rows (header_of (lines ++ head)) glyphs (draft_of head) (cell_of head) [] is.4 (omega (arith, is.5))))

reach_block : (block : Block) (lines : List (List ℕ)) (glyphs : List FontGlyph) → IsBlock block → AllRead (open_after false lines) (font_lines_in block) → length glyphs + length (glyphs_in block) ≤ max_glyphs →
    Reaches (lines_in block) (outside_at (header_of lines) glyphs) (outside_at (header_of (lines ++ font_lines_in block)) (glyphs ++ glyphs_in block))
reach_block (Single line) lines glyphs is numbers room =
    let there = outside_at (header_of (lines ++ line ∷ [])) glyphs in
    reach_to (line ∷ []) (outside_at (header_of lines) glyphs) there (outside_at (header_of (lines ++ line ∷ [])) (glyphs ++ [])) (rw (append-nil glyphs) refl)
    (reach_one line (outside_at (header_of lines) glyphs) there (single_step line lines glyphs is numbers.0))
reach_block (Glyph g) lines glyphs is numbers room =
    let part = InBitmap g.start g.head g.bitmap g.rows in
    let middle = state_in (lines ++ g.head) glyphs part in
    reach_then (open_lines part) (g.end ∷ []) (outside_at (header_of lines) glyphs) middle (outside_at (header_of (lines ++ g.head)) (glyphs ++ glyphs_in (Glyph g)))
    (reach_part part lines glyphs (is.start, is.head, is.bitmap, is.cell, is.rows, omega (arith, is.high)) numbers room)
    (reach_one g.end middle (outside_at (header_of (lines ++ g.head)) (glyphs ++ glyphs_in (Glyph g)))
    (end_next g.end (header_of (lines ++ g.head)) glyphs g.head ((cell_of g.head).h - length g.rows) g.rows (omega (arith, is.high)) is.end))

reach_blocks : (blocks : List Block) (lines : List (List ℕ)) (glyphs : List FontGlyph) → AllByRecursion IsBlock blocks → AllRead (open_after false lines) (flat_map font_lines_in blocks) → length glyphs + length (glyphs_of blocks) ≤ max_glyphs →
    Reaches (flat_map lines_in blocks) (outside_at (header_of lines) glyphs) (outside_at (header_of (lines ++ flat_map font_lines_in blocks)) (glyphs ++ glyphs_of blocks))
reach_blocks [] lines glyphs all numbers room =
    let here = outside_at (header_of lines) glyphs in
    reach_to [] here here (outside_at (header_of (lines ++ [])) (glyphs ++ [])) (rw (append-nil lines, append-nil glyphs) refl) (reach_none here)
reach_blocks (block ∷ blocks) lines glyphs all numbers room =
    let split = AllRead-split (open_after false lines) (font_lines_in block) (flat_map font_lines_in blocks) numbers in
    let long = length-append (glyphs_in block) (glyphs_of blocks) in
    let lines' = lines ++ font_lines_in block in
    let glyphs' = glyphs ++ glyphs_in block in
    let more : AllRead (open_after false lines') (flat_map font_lines_in blocks) = rw (open_after-append false lines (font_lines_in block)) split.1 in
    let rest = reach_blocks blocks lines' glyphs' all.1 more (omega (arith, long, length-append glyphs (glyphs_in block))) in
    let there = outside_at (header_of (lines' ++ flat_map font_lines_in blocks)) (glyphs' ++ glyphs_of blocks) in
    let goal = outside_at (header_of (lines ++ flat_map font_lines_in (block ∷ blocks))) (glyphs ++ glyphs_of (block ∷ blocks)) in
    let same : there ≡ goal =
    ap (λ ls. outside_at (header_of ls) (glyphs' ++ glyphs_of blocks)) (append_assoc lines (font_lines_in block) (flat_map font_lines_in blocks))
    ∙ ap (λ gs. outside_at (header_of (lines ++ flat_map font_lines_in (block ∷ blocks))) gs) (append_assoc glyphs (glyphs_in block) (glyphs_of blocks)) in
    reach_to (flat_map lines_in (block ∷ blocks)) (outside_at (header_of lines) glyphs) there goal same
    (reach_then (lines_in block) (flat_map lines_in blocks) (outside_at (header_of lines) glyphs) (outside_at (header_of lines') glyphs') there
    (reach_block block lines glyphs all.0 split.0 (omega (arith, long))) rest)

pub reach_front : (front : Front) → IsSoundFront front → Reaches (front_lines front) no_font_lines (state_of front)
reach_front (Unbegun before) is = reach_passed before is
reach_front (Begun before start blocks part) is =
    let split = AllRead-split false (flat_map font_lines_in blocks) (head_of part) is.numbers in
    let first = outside_at (header_of []) [] in
    let middle = outside_at (header_of (flat_map font_lines_in blocks)) (glyphs_of blocks) in
    reach_then (before ++ start ∷ flat_map lines_in blocks) (open_lines part) no_font_lines middle (state_of (Begun before start blocks part))
    (reach_then before (start ∷ flat_map lines_in blocks) no_font_lines no_font_lines middle
    (reach_passed before is.passed)
    (reach_more start (flat_map lines_in blocks) no_font_lines first middle (start_next (says start) is.begins)
    (reach_blocks blocks [] [] is.whole split.0 (omega (arith, is.room)))))
    (reach_part part (flat_map font_lines_in blocks) (glyphs_of blocks) is.begun split.1 is.room)

-- where a line leaves the format, the reader stops so
pub front_stops : (front : Front) (line : List ℕ) (cause : FontCause) → IsSoundFront front → fault_after front line ≡ Some cause → reading_after line (state_of front) ≡ Fault cause
front_stops (Unbegun before) line cause is f = start_stops (says line) cause f
front_stops (Begun before start blocks Outside) line cause is f = state_stops (font_lines blocks Outside) (glyphs_of blocks) line cause f
front_stops (Begun before start blocks (InGlyph begin head)) line cause is f = head_stops (says line) (after_word line) (header_of (font_lines blocks (InGlyph begin head))) (glyphs_of blocks) (draft_of head) cause f
front_stops (Begun before start blocks (InBitmap begin head bitmap rows)) line cause is f =
    bitmap_stops line (header_of (font_lines blocks (InBitmap begin head bitmap rows))) (glyphs_of blocks) (draft_of head) (cell_of head) rows cause is.begun.5 f
