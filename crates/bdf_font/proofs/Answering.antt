-- What the reader answers is the answer of the format, and there is no other.
use Rattle.std.proofs.Common.{◌≡◌, ℕ, ◌+◌, ◌-◌, ◌<◌, ◌==◌, ◌⊎◌, inl, inr, List, [], ◌∷◌, ◌++◌, length, flat_map, Bool, true, false, cond, nat_le, ◌≢◌, Some, None, Result, Ok, Err, IsSome, refl, ap, sym, ◌∙◌, subst, arith, append-nil, append_assoc, length-append}
use Rattle.std.proofs.lemmas.List.Concat.{flat_map-append}
use Rattle.std.proofs.lemmas.Bool.{leb-true, leb-false}
use Rattle.std.proofs.lemmas.Bool.Decides.{nat_tests}
use Rattle.bdf_font.specs.Limits.{max_glyphs}
use Rattle.bdf_font.specs.Words.{after_word}
use Rattle.bdf_font.specs.Fonts.{FontValue}
use Rattle.bdf_font.specs.declared.cause.FontCause.{FontCause}
use Rattle.bdf_font.specs.declared.cause.FontCause.TheVariants.{NoStart, BadRow, NoEnd}
use Rattle.bdf_font.specs.declared.cause.FontRefusal.{FontRefusal}
use Rattle.bdf_font.specs.declared.cause.FontRefusal.TheVariants as refusal
use Rattle.bdf_font.specs.declared.cause.FontRefusal.TheVariants.{BadFont, TooLarge}
use Rattle.bdf_font.specs.declared.glyphs.BoundingBox.{BoundingBox}
use Rattle.bdf_font.specs.declared.reading.Reading.{Reading}
use Rattle.bdf_font.specs.declared.keyword.Keyword.TheVariants as keyword
use Rattle.bdf_font.specs.declared.keyword.GlyphKeyword.TheVariants as in_glyph
use Rattle.bdf_font.specs.Grammar.{Block, Single, Glyph, Outside, InGlyph, InBitmap, Front, Unbegun, Begun, says, is_passed, is_single, is_in_head, is_read, is_row, row_len, open_after, lines_in, open_lines, front_lines, font_lines_in, font_lines, glyphs_in, glyphs_of, glyph_in, cell_of, cell_said, AllRead, ArePassed, IsBlock, IsBegun, IsSoundFront, start_fault, single_fault, head_fault, bitmap_fault, after_rows_fault, fault_after, HasTooMany, IsFontAnswer}
use Rattle.bdf_font.specs.Rows.{Outcome, Next, End, Fault, Full}
use Rattle.bdf_font.specs.Steps.{no_font_lines, reading_after, font_step, font_made}
use Rattle.bdf_font.proofs.Walk.{lines_read, after_line, read_at, read_none}
use Rattle.bdf_font.proofs.Given.{header_of, draft_of, AllRead-push, All-pushed}
use Rattle.bdf_font.proofs.States.{outside_at, glyph_at, bitmap_at, state_of, passed_next, start_next, start_stops, glyph_next, full_stops, state_stops, single_step, head_step, bitmap_step, row_step, end_next, start_cases, single_cases, head_cases, after_rows_cases}
use Rattle.bdf_font.proofs.Fronts.{reach_front, front_stops}

-- ---- one line more makes a longer front, or ends the walk

pub record Goes (front : Front) (line : List ℕ) (next : Reading) : Type 0 where
  pub longer : Front
  pub sound : IsSoundFront longer
  pub lines : front_lines longer ≡ front_lines front ++ line ∷ []
  pub state : next ≡ state_of longer

pub record Ends (front : Front) (line : List ℕ) (last : Reading) : Type 0 where
  pub before : List (List ℕ)
  pub start : List ℕ
  pub blocks : List Block
  pub is : front ≡ Begun before start blocks Outside
  pub ended : says line ≡ keyword.EndFont
  pub state : last ≡ state_of (Begun before start blocks Outside)

pub record Fills (front : Front) (line : List ℕ) : Type 0 where
  pub before : List (List ℕ)
  pub start : List ℕ
  pub blocks : List Block
  pub is : front ≡ Begun before start blocks Outside
  pub begins : says line ≡ keyword.StartChar
  pub full : length (glyphs_of blocks) ≡ max_glyphs

abbrev pub Stepped : Front → List ℕ → Outcome Reading → Type 0
Stepped front line (Next next) = Goes front line next
Stepped front line (End last) = Ends front line last
Stepped front line (Fault cause) = fault_after front line ≡ Some cause
Stepped front line Full = Fills front line

stepped_to : (front : Front) (line : List ℕ) (outcome there : Outcome Reading) → outcome ≡ there → Stepped front line there → Stepped front line outcome
stepped_to front line outcome there e s = subst (λ o. Stepped front line o) (sym e) s

-- ---- before STARTFONT

unbegun_ways : (before : List (List ℕ)) (line : List ℕ) → ArePassed before → (says line ≡ keyword.StartFont) ⊎ ((is_passed (says line) ≡ true) ⊎ (start_fault (says line) ≡ Some NoStart)) → Stepped (Unbegun before) line (reading_after line no_font_lines)
unbegun_ways before line all (inl e) = stepped_to (Unbegun before) line (reading_after line no_font_lines) (Next (outside_at (header_of []) [])) (start_next (says line) e) (record {
  longer = Begun before line [] Outside;
  sound = record { passed = all; begins = e; whole = tt; begun = tt; numbers = tt; room = omega arith };
  lines = append-nil (before ++ line ∷ []);
  state = refl;
})
unbegun_ways before line all (inr (inl p)) = stepped_to (Unbegun before) line (reading_after line no_font_lines) (Next no_font_lines) (passed_next (says line) p) (record {
  longer = Unbegun (before ++ line ∷ []);
  sound = All-pushed (λ l. is_passed (says l) ≡ true) before line all p;
  lines = refl;
  state = refl;
})
unbegun_ways before line all (inr (inr f)) = stepped_to (Unbegun before) line (reading_after line no_font_lines) (Fault NoStart) (start_stops (says line) NoStart f) f

-- ---- outside glyphs

-- one block more
more_lines : (blocks : List Block) (block : Block) → font_lines (blocks ++ block ∷ []) Outside ≡ flat_map font_lines_in blocks ++ font_lines_in block
more_lines blocks block = simp (append-nil, flat_map-append)

more_glyphs : (blocks : List Block) (block : Block) → glyphs_of (blocks ++ block ∷ []) ≡ glyphs_of blocks ++ glyphs_in block
more_glyphs blocks block = simp (append-nil, flat_map-append)

more_front : (before : List (List ℕ)) (start : List ℕ) (blocks : List Block) (block : Block) →
    front_lines (Begun before start (blocks ++ block ∷ []) Outside) ≡ (before ++ start ∷ flat_map lines_in blocks) ++ lines_in block
more_front before start blocks block = simp (append-nil, append_assoc, flat_map-append)

single_longer : (before : List (List ℕ)) (start : List ℕ) (blocks : List Block) (line : List ℕ) → IsBegun before start blocks Outside → is_single (says line) ≡ true → is_read (open_after false (font_lines blocks Outside)) (says line) (after_word line) ≡ true →
    Goes (Begun before start blocks Outside) line (outside_at (header_of (font_lines blocks Outside ++ line ∷ [])) (glyphs_of blocks))
single_longer before start blocks line is single read =
    let block = Single line in
    let same_lines : font_lines (blocks ++ block ∷ []) Outside ≡ font_lines blocks Outside ++ line ∷ [] = more_lines blocks block ∙ ap (λ ls. ls ++ line ∷ []) (sym (append-nil (flat_map font_lines_in blocks))) in
    let same_glyphs : glyphs_of (blocks ++ block ∷ []) ≡ glyphs_of blocks = more_glyphs blocks block ∙ append-nil (glyphs_of blocks) in
    record {
      longer = Begun before start (blocks ++ block ∷ []) Outside;
      sound = record {
        passed = is.passed;
        begins = is.begins;
        whole = All-pushed IsBlock blocks block is.whole single;
        begun = tt;
        numbers = subst (AllRead false) (sym same_lines) (AllRead-push false (font_lines blocks Outside) line is.numbers read);
        room = omega (arith, is.room, ap length same_glyphs);
      };
      lines = more_front before start blocks block ∙ ap (λ ls. ls ++ line ∷ []) (sym (append-nil (before ++ start ∷ flat_map lines_in blocks)));
      state = ap (λ ls. outside_at (header_of ls) (glyphs_of blocks)) (sym same_lines) ∙ ap (λ gs. outside_at (header_of (font_lines (blocks ++ block ∷ []) Outside)) gs) (sym same_glyphs);
    }

glyph_longer : (before : List (List ℕ)) (start : List ℕ) (blocks : List Block) (line : List ℕ) → IsBegun before start blocks Outside → says line ≡ keyword.StartChar → length (glyphs_of blocks) < max_glyphs →
    Goes (Begun before start blocks Outside) line (glyph_at (header_of (font_lines blocks Outside)) (glyphs_of blocks) (draft_of []))
glyph_longer before start blocks line is begins few = record {
  longer = Begun before start blocks (InGlyph line []);
  sound = record { passed = is.passed; begins = is.begins; whole = is.whole; begun = (begins, tt); numbers = is.numbers; room = omega (arith, few) };
  lines = ap (λ ls. ls ++ line ∷ []) (sym (append-nil (before ++ start ∷ flat_map lines_in blocks)));
  state = refl;
}

glyph_ways : (before : List (List ℕ)) (start : List ℕ) (blocks : List Block) (line : List ℕ) → IsBegun before start blocks Outside → says line ≡ keyword.StartChar → (full : Bool) → nat_le max_glyphs (length (glyphs_of blocks)) ≡ full →
    Stepped (Begun before start blocks Outside) line (reading_after line (state_of (Begun before start blocks Outside)))
glyph_ways before start blocks line is begins true e =
    let full : length (glyphs_of blocks) ≡ max_glyphs = omega (arith, is.room, leb-true max_glyphs (length (glyphs_of blocks)) e) in
    stepped_to (Begun before start blocks Outside) line (reading_after line (state_of (Begun before start blocks Outside))) Full
    (full_stops (says line) (after_word line) (header_of (font_lines blocks Outside)) (glyphs_of blocks) begins full)
    (record { before = before; start = start; blocks = blocks; is = refl; begins = begins; full = full })
glyph_ways before start blocks line is begins false e =
    let few : length (glyphs_of blocks) < max_glyphs = leb-false max_glyphs (length (glyphs_of blocks)) e in
    stepped_to (Begun before start blocks Outside) line (reading_after line (state_of (Begun before start blocks Outside))) (Next (glyph_at (header_of (font_lines blocks Outside)) (glyphs_of blocks) (draft_of [])))
    (glyph_next (says line) (after_word line) (header_of (font_lines blocks Outside)) (glyphs_of blocks) begins few)
    (glyph_longer before start blocks line is begins few)

outside_ways : (before : List (List ℕ)) (start : List ℕ) (blocks : List Block) (line : List ℕ) → IsBegun before start blocks Outside →
    (says line ≡ keyword.StartChar) ⊎ ((says line ≡ keyword.EndFont) ⊎ (((is_single (says line) ≡ true) × (is_read (open_after false (font_lines blocks Outside)) (says line) (after_word line) ≡ true)) ⊎ ((cause : FontCause) × (single_fault (open_after false (font_lines blocks Outside)) (says line) (after_word line) ≡ Some cause)))) →
    Stepped (Begun before start blocks Outside) line (reading_after line (state_of (Begun before start blocks Outside)))
outside_ways before start blocks line is (inl e) = glyph_ways before start blocks line is e (nat_le max_glyphs (length (glyphs_of blocks))) refl
outside_ways before start blocks line is (inr (inl e)) =
    let here = state_of (Begun before start blocks Outside) in
    stepped_to (Begun before start blocks Outside) line (reading_after line here) (End here) (ap (λ k. font_step k (after_word line) here) e)
    (record { before = before; start = start; blocks = blocks; is = refl; ended = e; state = refl })
outside_ways before start blocks line is (inr (inr (inl one))) =
    stepped_to (Begun before start blocks Outside) line (reading_after line (state_of (Begun before start blocks Outside))) (Next (outside_at (header_of (font_lines blocks Outside ++ line ∷ [])) (glyphs_of blocks)))
    (single_step line (font_lines blocks Outside) (glyphs_of blocks) one.0 one.1)
    (single_longer before start blocks line is one.0 one.1)
outside_ways before start blocks line is (inr (inr (inr f))) =
    stepped_to (Begun before start blocks Outside) line (reading_after line (state_of (Begun before start blocks Outside))) (Fault f.0)
    (state_stops (font_lines blocks Outside) (glyphs_of blocks) line f.0 f.1) f.1

-- ---- in a glyph

head_longer : (before : List (List ℕ)) (start : List ℕ) (blocks : List Block) (begin : List ℕ) (head : List (List ℕ)) (line : List ℕ) → IsBegun before start blocks (InGlyph begin head) →
    is_in_head (says line) ≡ true → is_read (open_after false (font_lines blocks (InGlyph begin head))) (says line) (after_word line) ≡ true →
    Goes (Begun before start blocks (InGlyph begin head)) line (glyph_at (header_of (font_lines blocks (InGlyph begin head) ++ line ∷ [])) (glyphs_of blocks) (draft_of (head ++ line ∷ [])))
head_longer before start blocks begin head line is one read =
    let same_lines : font_lines blocks (InGlyph begin head) ++ line ∷ [] ≡ font_lines blocks (InGlyph begin (head ++ line ∷ [])) = append_assoc (flat_map font_lines_in blocks) head (line ∷ []) in
    record {
      longer = Begun before start blocks (InGlyph begin (head ++ line ∷ []));
      sound = record {
        passed = is.passed;
        begins = is.begins;
        whole = is.whole;
        begun = (is.begun.0, All-pushed (λ l. is_in_head (says l) ≡ true) head line is.begun.1 one);
        numbers = subst (AllRead false) same_lines (AllRead-push false (font_lines blocks (InGlyph begin head)) line is.numbers read);
        room = is.room;
      };
      lines = sym (append_assoc (before ++ start ∷ flat_map lines_in blocks) (begin ∷ head) (line ∷ []));
      state = ap (λ ls. glyph_at (header_of ls) (glyphs_of blocks) (draft_of (head ++ line ∷ []))) same_lines;
    }

bitmap_longer : (before : List (List ℕ)) (start : List ℕ) (blocks : List Block) (begin : List ℕ) (head : List (List ℕ)) (line : List ℕ) → IsBegun before start blocks (InGlyph begin head) →
    says line ≡ keyword.Glyph in_glyph.Bitmap → IsSome (cell_said head) →
    Goes (Begun before start blocks (InGlyph begin head)) line (bitmap_at (header_of (font_lines blocks (InGlyph begin head))) (glyphs_of blocks) (draft_of head) (cell_of head) (cell_of head).h [])
bitmap_longer before start blocks begin head line is e some = record {
  longer = Begun before start blocks (InBitmap begin head line []);
  sound = record { passed = is.passed; begins = is.begins; whole = is.whole; begun = (is.begun.0, is.begun.1, e, some, tt, omega arith); numbers = is.numbers; room = is.room };
  lines = sym (append_assoc (before ++ start ∷ flat_map lines_in blocks) (begin ∷ head) (line ∷ []));
  state = ap (λ n. bitmap_at (header_of (font_lines blocks (InGlyph begin head))) (glyphs_of blocks) (draft_of head) (cell_of head) n []) (omega arith);
}

head_ways : (before : List (List ℕ)) (start : List ℕ) (blocks : List Block) (begin : List ℕ) (head : List (List ℕ)) (line : List ℕ) → IsBegun before start blocks (InGlyph begin head) →
    ((is_in_head (says line) ≡ true) × (is_read (open_after false (font_lines blocks (InGlyph begin head))) (says line) (after_word line) ≡ true))
    ⊎ (((says line ≡ keyword.Glyph in_glyph.Bitmap) × IsSome (cell_said head)) ⊎ ((cause : FontCause) × (head_fault (open_after false (font_lines blocks (InGlyph begin head))) (cell_said head) (says line) (after_word line) ≡ Some cause))) →
    Stepped (Begun before start blocks (InGlyph begin head)) line (reading_after line (state_of (Begun before start blocks (InGlyph begin head))))
head_ways before start blocks begin head line is (inl one) =
    stepped_to (Begun before start blocks (InGlyph begin head)) line (reading_after line (state_of (Begun before start blocks (InGlyph begin head))))
    (Next (glyph_at (header_of (font_lines blocks (InGlyph begin head) ++ line ∷ [])) (glyphs_of blocks) (draft_of (head ++ line ∷ []))))
    (head_step line (font_lines blocks (InGlyph begin head)) head (glyphs_of blocks) one.0 one.1)
    (head_longer before start blocks begin head line is one.0 one.1)
head_ways before start blocks begin head line is (inr (inl one)) =
    stepped_to (Begun before start blocks (InGlyph begin head)) line (reading_after line (state_of (Begun before start blocks (InGlyph begin head))))
    (Next (bitmap_at (header_of (font_lines blocks (InGlyph begin head))) (glyphs_of blocks) (draft_of head) (cell_of head) (cell_of head).h []))
    (bitmap_step line (font_lines blocks (InGlyph begin head)) head (glyphs_of blocks) one.0 one.1)
    (bitmap_longer before start blocks begin head line is one.0 one.1)
head_ways before start blocks begin head line is (inr (inr f)) =
    stepped_to (Begun before start blocks (InGlyph begin head)) line (reading_after line (state_of (Begun before start blocks (InGlyph begin head)))) (Fault f.0)
    (front_stops (Begun before start blocks (InGlyph begin head)) line f.0 is f.1) f.1

-- ---- in a bitmap

row_longer : (before : List (List ℕ)) (start : List ℕ) (blocks : List Block) (begin : List ℕ) (head : List (List ℕ)) (bitmap : List ℕ) (rows : List (List ℕ)) (line : List ℕ) → IsBegun before start blocks (InBitmap begin head bitmap rows) →
    length rows < (cell_of head).h → is_row (row_len (cell_of head).w) line ≡ true →
    Goes (Begun before start blocks (InBitmap begin head bitmap rows)) line (state_of (Begun before start blocks (InBitmap begin head bitmap (rows ++ line ∷ []))))
row_longer before start blocks begin head bitmap rows line is room row = record {
  longer = Begun before start blocks (InBitmap begin head bitmap (rows ++ line ∷ []));
  sound = record {
    passed = is.passed;
    begins = is.begins;
    whole = is.whole;
    begun = (is.begun.0, is.begun.1, is.begun.2, is.begun.3, All-pushed (λ l. is_row (row_len (cell_of head).w) l ≡ true) rows line is.begun.4 row, omega (arith, length-append rows (line ∷ []), room));
    numbers = is.numbers;
    room = is.room;
  };
  lines = simp append_assoc;
  state = refl;
}

-- the glyph that ends
abbrev ended_block : List ℕ → List (List ℕ) → List ℕ → List (List ℕ) → List ℕ → Block
ended_block begin head bitmap rows line = Glyph (record { start = begin; head = head; bitmap = bitmap; rows = rows; end = line })

end_longer : (before : List (List ℕ)) (start : List ℕ) (blocks : List Block) (begin : List ℕ) (head : List (List ℕ)) (bitmap : List ℕ) (rows : List (List ℕ)) (line : List ℕ) → IsBegun before start blocks (InBitmap begin head bitmap rows) →
    length rows ≡ (cell_of head).h → says line ≡ keyword.Glyph in_glyph.EndChar →
    Goes (Begun before start blocks (InBitmap begin head bitmap rows)) line (outside_at (header_of (font_lines blocks (InBitmap begin head bitmap rows))) (glyphs_of blocks ++ glyph_in head rows ∷ []))
end_longer before start blocks begin head bitmap rows line is high e =
    let block = ended_block begin head bitmap rows line in
    let same_lines : font_lines (blocks ++ block ∷ []) Outside ≡ font_lines blocks (InBitmap begin head bitmap rows) = more_lines blocks block in
    let same_glyphs : glyphs_of (blocks ++ block ∷ []) ≡ glyphs_of blocks ++ glyph_in head rows ∷ [] = more_glyphs blocks block in
    record {
      longer = Begun before start (blocks ++ block ∷ []) Outside;
      sound = record {
        passed = is.passed;
        begins = is.begins;
        whole = All-pushed IsBlock blocks block is.whole (record { start = is.begun.0; head = is.begun.1; bitmap = is.begun.2; cell = is.begun.3; rows = is.begun.4; high = high; end = e });
        begun = tt;
        numbers = subst (AllRead false) (sym same_lines) is.numbers;
        room = omega (arith, is.room, ap length same_glyphs, length-append (glyphs_of blocks) (glyph_in head rows ∷ []));
      };
      lines = more_front before start blocks block ∙ sym (append_assoc (before ++ start ∷ flat_map lines_in blocks) (open_lines (InBitmap begin head bitmap rows)) (line ∷ []));
      state = ap (λ ls. outside_at (header_of ls) (glyphs_of blocks ++ glyph_in head rows ∷ [])) (sym same_lines) ∙ ap (λ gs. outside_at (header_of (font_lines (blocks ++ block ∷ []) Outside)) gs) (sym same_glyphs);
    }

-- a line behind all rows, and one before
fault_over : (cell : BoundingBox) (done : ℕ) (line : List ℕ) (cause : FontCause) → done ≡ cell.h → after_rows_fault (says line) ≡ Some cause → bitmap_fault cell done line ≡ Some cause
fault_over cell done line cause high f =
    let over : (done == cell.h) ≡ true = grind (arith, nat_tests) in
    ap (λ b. cond b (after_rows_fault (says line)) (cond (is_row (row_len cell.w) line) None (Some BadRow))) over ∙ f

fault_among : (cell : BoundingBox) (done : ℕ) (line : List ℕ) → done < cell.h → is_row (row_len cell.w) line ≡ false → bitmap_fault cell done line ≡ Some BadRow
fault_among cell done line room f =
    let more : (done == cell.h) ≡ false = grind (arith, nat_tests) in
    ap (λ b. cond b (after_rows_fault (says line)) (cond (is_row (row_len cell.w) line) None (Some BadRow))) more
    ∙ ap (λ b. cond b None (Some BadRow)) f

bitmap_ways : (before : List (List ℕ)) (start : List ℕ) (blocks : List Block) (begin : List ℕ) (head : List (List ℕ)) (bitmap : List ℕ) (rows : List (List ℕ)) (line : List ℕ) → IsBegun before start blocks (InBitmap begin head bitmap rows) →
    (over row : Bool) → (length rows == (cell_of head).h) ≡ over → is_row (row_len (cell_of head).w) line ≡ row → (says line ≡ keyword.Glyph in_glyph.EndChar) ⊎ (after_rows_fault (says line) ≡ Some BadRow) →
    Stepped (Begun before start blocks (InBitmap begin head bitmap rows)) line (reading_after line (state_of (Begun before start blocks (InBitmap begin head bitmap rows))))
bitmap_ways before start blocks begin head bitmap rows line is true row o r (inl e) =
    let high : length rows ≡ (cell_of head).h = grind (arith, nat_tests) in
    let part = InBitmap begin head bitmap rows in
    stepped_to (Begun before start blocks part) line (reading_after line (state_of (Begun before start blocks part)))
    (Next (outside_at (header_of (font_lines blocks part)) (glyphs_of blocks ++ glyph_in head rows ∷ [])))
    (end_next line (header_of (font_lines blocks part)) (glyphs_of blocks) head ((cell_of head).h - length rows) rows (omega (arith, high)) e)
    (end_longer before start blocks begin head bitmap rows line is high e)
bitmap_ways before start blocks begin head bitmap rows line is true row o r (inr f) =
    let high : length rows ≡ (cell_of head).h = grind (arith, nat_tests) in
    let part = InBitmap begin head bitmap rows in
    let fault = fault_over (cell_of head) (length rows) line BadRow high f in
    stepped_to (Begun before start blocks part) line (reading_after line (state_of (Begun before start blocks part))) (Fault BadRow)
    (front_stops (Begun before start blocks part) line BadRow is fault) fault
bitmap_ways before start blocks begin head bitmap rows line is false true o r way =
    let other : length rows ≢ (cell_of head).h = grind (arith, nat_tests) in
    let room : length rows < (cell_of head).h = omega (arith, other, is.begun.5) in
    let part = InBitmap begin head bitmap rows in
    stepped_to (Begun before start blocks part) line (reading_after line (state_of (Begun before start blocks part)))
    (Next (state_of (Begun before start blocks (InBitmap begin head bitmap (rows ++ line ∷ [])))))
    (row_step line (header_of (font_lines blocks part)) (glyphs_of blocks) (draft_of head) (cell_of head) rows room r)
    (row_longer before start blocks begin head bitmap rows line is room r)
bitmap_ways before start blocks begin head bitmap rows line is false false o r way =
    let other : length rows ≢ (cell_of head).h = grind (arith, nat_tests) in
    let room : length rows < (cell_of head).h = omega (arith, other, is.begun.5) in
    let part = InBitmap begin head bitmap rows in
    let fault = fault_among (cell_of head) (length rows) line room r in
    stepped_to (Begun before start blocks part) line (reading_after line (state_of (Begun before start blocks part))) (Fault BadRow)
    (front_stops (Begun before start blocks part) line BadRow is fault) fault

-- ---- each line

pub stepped : (front : Front) (line : List ℕ) → IsSoundFront front → Stepped front line (reading_after line (state_of front))
stepped (Unbegun before) line is = unbegun_ways before line is (start_cases (says line))
stepped (Begun before start blocks Outside) line is = outside_ways before start blocks line is (single_cases (open_after false (font_lines blocks Outside)) (says line) (after_word line))
stepped (Begun before start blocks (InGlyph begin head)) line is = head_ways before start blocks begin head line is (head_cases (open_after false (font_lines blocks (InGlyph begin head))) (cell_said head) (says line) (after_word line))
stepped (Begun before start blocks (InBitmap begin head bitmap rows)) line is =
    bitmap_ways before start blocks begin head bitmap rows line is (length rows == (cell_of head).h) (is_row (row_len (cell_of head).w) line) refl refl (after_rows_cases (says line))

-- ---- the walk answers as the format does

spelled_on : (front longer : Front) (line : List ℕ) (lines : List (List ℕ)) → front_lines longer ≡ front_lines front ++ line ∷ [] → front_lines longer ++ lines ≡ front_lines front ++ line ∷ lines
spelled_on front longer line lines e = ap (λ ls. ls ++ lines) e ∙ append_assoc (front_lines front) (line ∷ []) lines

goes_on : (front : Front) (line : List ℕ) (lines : List (List ℕ)) (next : Reading) (g : Goes front line next) →
    IsFontAnswer (front_lines g.longer ++ lines) (lines_read (1 + length (front_lines g.longer)) lines (state_of g.longer)) →
    IsFontAnswer (front_lines front ++ line ∷ lines) (lines_read (1 + length (front_lines front) + 1) lines next)
goes_on front line lines next g again =
    let count : 1 + length (front_lines g.longer) ≡ 1 + length (front_lines front) + 1 = omega (arith, ap length g.lines, length-append (front_lines front) (line ∷ [])) in
    let here = subst (λ ls. IsFontAnswer ls (lines_read (1 + length (front_lines g.longer)) lines (state_of g.longer))) (spelled_on front g.longer line lines g.lines) again in
    let there = subst (λ n. IsFontAnswer (front_lines front ++ line ∷ lines) (lines_read n lines (state_of g.longer))) count here in
    subst (λ s. IsFontAnswer (front_lines front ++ line ∷ lines) (lines_read (1 + length (front_lines front) + 1) lines s)) (sym g.state) there

ends_here : (front : Front) (line : List ℕ) (lines : List (List ℕ)) (last : Reading) → IsSoundFront front → Ends front line last → IsFontAnswer (front_lines front ++ line ∷ lines) (Ok (font_made last.header last.glyphs))
ends_here front line lines last is e = record {
  before = e.before;
  start = e.start;
  blocks = e.blocks;
  end = line;
  after = lines;
  spelled = ap (λ f. front_lines f ++ line ∷ lines) e.is;
  sound = subst IsSoundFront e.is is;
  ended = e.ended;
  said = ap (λ (r : Reading). font_made r.header r.glyphs) e.state;
}

fills_here : (front : Front) (line : List ℕ) (lines : List (List ℕ)) → IsSoundFront front → Fills front line → HasTooMany (front_lines front ++ line ∷ lines)
fills_here front line lines is e = record {
  before = e.before;
  start = e.start;
  blocks = e.blocks;
  line = line;
  after = lines;
  spelled = ap (λ f. front_lines f ++ line ∷ lines) e.is;
  sound = subst IsSoundFront e.is is;
  full = e.full;
  begins = e.begins;
}

pub answered : (lines : List (List ℕ)) (front : Front) → IsSoundFront front → IsFontAnswer (front_lines front ++ lines) (lines_read (1 + length (front_lines front)) lines (state_of front))
answered [] front is =
    let same : front_lines front ++ [] ≡ front_lines front = append-nil (front_lines front) in
    rw (read_none (1 + length (front_lines front)) (state_of front))
    (inr (refl, record { front = front; spelled = same; sound = is; place = ap (λ ls. 1 + length ls) (sym same) }))
answered (line ∷ lines) front is = cases (λ longer sound. answered lines longer sound) (reading_after line (state_of front)) refl (stepped front line is)
  where
    cases : ((longer : Front) → IsSoundFront longer → IsFontAnswer (front_lines longer ++ lines) (lines_read (1 + length (front_lines longer)) lines (state_of longer))) → (outcome : Outcome Reading) → reading_after line (state_of front) ≡ outcome → Stepped front line outcome → IsFontAnswer (front_lines front ++ line ∷ lines) (lines_read (1 + length (front_lines front)) (line ∷ lines) (state_of front))
    cases again (Next next) e s = rw (read_at (1 + length (front_lines front)) line lines (state_of front) (Next next) e) (goes_on front line lines next s (again s.longer s.sound))
    cases again (End last) e s = rw (read_at (1 + length (front_lines front)) line lines (state_of front) (End last) e) (ends_here front line lines last is s)
    cases again (Fault cause) e s = rw (read_at (1 + length (front_lines front)) line lines (state_of front) (Fault cause) e) (inl (record { front = front; line = line; after = lines; spelled = refl; sound = is; place = refl; fault = s }))
    cases again Full e s = rw (read_at (1 + length (front_lines front)) line lines (state_of front) Full e) (refl, fills_here front line lines is s)

-- ---- and there is no other answer

come : (front : Front) (line : List ℕ) (after lines : List (List ℕ)) (outcome : Outcome Reading) → IsSoundFront front → lines ≡ front_lines front ++ line ∷ after → reading_after line (state_of front) ≡ outcome →
    lines_read 1 lines no_font_lines ≡ after_line (1 + length (front_lines front)) after outcome
come front line after lines outcome is spelled e =
    ap (λ ls. lines_read 1 ls no_font_lines) spelled
    ∙ (reach_front front is 1 (line ∷ after) ∙ read_at (1 + length (front_lines front)) line after (state_of front) outcome e)

pub one_answer : (lines : List (List ℕ)) (answer : Result FontValue FontRefusal) → IsFontAnswer lines answer → lines_read 1 lines no_font_lines ≡ answer
one_answer lines (Ok font) a =
    let front = Begun a.before a.start a.blocks Outside in
    come front a.end a.after lines (End (state_of front)) a.sound a.spelled (ap (λ k. font_step k (after_word a.end) (state_of front)) a.ended) ∙ ap Ok (sym a.said)
one_answer lines (Err (BadFont n cause)) (inl a) =
    come a.front a.line a.after lines (Fault cause) a.sound a.spelled (front_stops a.front a.line cause a.sound a.fault) ∙ ap (λ k. Err (BadFont k cause)) (sym a.place)
one_answer lines (Err (BadFont n cause)) (inr (e, a)) =
    ap (λ ls. lines_read 1 ls no_font_lines) (a.spelled ∙ sym (append-nil (front_lines a.front)))
    ∙ (reach_front a.front a.sound 1 []
    ∙ (read_none (1 + length (front_lines a.front)) (state_of a.front)
    ∙ (ap (λ k. Err (BadFont k NoEnd)) (sym (a.place ∙ ap (λ ls. 1 + length ls) a.spelled)) ∙ ap (λ c. Err (BadFont n c)) (sym e))))
one_answer lines (Err (TooLarge most)) (e, a) =
    let front = Begun a.before a.start a.blocks Outside in
    come front a.line a.after lines Full a.sound a.spelled (full_stops (says a.line) (after_word a.line) (header_of (font_lines a.blocks Outside)) (glyphs_of a.blocks) a.begins a.full) ∙ ap (λ k. Err (TooLarge k)) (sym e)
one_answer lines (Err refusal.OutOfMemory) a = absurd a

pub read_answer : (lines : List (List ℕ)) → IsFontAnswer lines (lines_read 1 lines no_font_lines)
read_answer lines = answered lines (Unbegun []) tt
