-- Public: the format on the whole list of a text's lines: the blocks that a font is made of, which of several like lines counts, and where a text first leaves the format.
use Rattle.std.specs.Prelude.{◌≡◌, ℕ, ◌+◌, ◌*◌, ◌/◌, ◌≤◌, ◌⊎◌, ◌==◌, ◌&&◌, not, ◌||◌, Bool, true, false, if◌then◌else◌, List, [], ◌∷◌, ◌++◌, length, flat_map, Option, Some, None, is_some, IsSome, unwrap_or, Result, Ok, Err, ℤ, pos, negsuc, neg_ℤ, ◌+ℤ◌}
use Rattle.std.specs.List.{AllByRecursion, list_all}
use Rattle.std.specs.Option.{option_or}
use Rattle.hex.specs.Hex.{is_hex_digit, decode_sized}
use Rattle.hex.specs.declared.error.FromHexError.{FromHexError}
use Rattle.ass_num.specs.Blanks.{trimmed}
use Rattle.bdf_font.specs.Limits.{max_glyphs}
use Rattle.bdf_font.specs.Words.{first_word, after_word, offset_of, bounding_box_of, family_name_of}
use Rattle.ass_num.specs.Wholes.{whole_of}
use Rattle.bdf_font.specs.Keywords.{keyword_of}
use Rattle.bdf_font.specs.Fonts.{FontValue, bitmap_font}
use Rattle.bdf_font.specs.Pixels.{bitmap_glyph}
use Rattle.bdf_font.specs.declared.cause.FontCause.{FontCause}
use Rattle.bdf_font.specs.declared.cause.FontCause.TheVariants.{NoStart, BadNumber, BadRow, Misplaced, NoEnd}
use Rattle.bdf_font.specs.declared.cause.FontRefusal.{FontRefusal}
use Rattle.bdf_font.specs.declared.cause.FontRefusal.TheVariants as refusal
use Rattle.bdf_font.specs.declared.cause.FontRefusal.TheVariants.{BadFont, TooLarge}
use Rattle.bdf_font.specs.declared.glyphs.FontGlyph.{FontGlyph}
use Rattle.bdf_font.specs.declared.glyphs.BoundingBox.{BoundingBox}
use Rattle.bdf_font.specs.declared.glyphs.Pixels.{Pixels}
use Rattle.bdf_font.specs.declared.keyword.Keyword.{Keyword}
use Rattle.bdf_font.specs.declared.keyword.Keyword.TheVariants as keyword
use Rattle.bdf_font.specs.declared.keyword.GlyphKeyword.TheVariants as in_glyph
use Rattle.bdf_font.specs.declared.keyword.HeaderKeyword.TheVariants as in_header
use Rattle.bdf_font.specs.declared.keyword.PropertyKeyword.TheVariants as property

-- what a line says, outside bitmaps: its first word
abbrev pub says : List ℕ → Keyword
says line = keyword_of (first_word line)

-- ---- blocks of lines

-- A glyph: its STARTCHAR line, the lines behind it, its BITMAP line, the rows, and its ENDCHAR line.
pub record GlyphBlock : Type 0 where
  pub start : List ℕ
  pub head : List (List ℕ)
  pub bitmap : List ℕ
  pub rows : List (List ℕ)
  pub end : List ℕ

-- A glyph, or a line outside glyphs.
pub data Block : Type 0 where
  Single : List ℕ → Block
  Glyph : GlyphBlock → Block

-- What was begun and isn't ended: nothing, a glyph, or the bitmap of one.
pub data Open : Type 0 where
  Outside : Open
  InGlyph : List ℕ → List (List ℕ) → Open
  InBitmap : List ℕ → List (List ℕ) → List ℕ → List (List ℕ) → Open

-- The front of a text: lines that are passed over, and then STARTFONT, whole blocks, and what is begun.
pub data Front : Type 0 where
  Unbegun : List (List ℕ) → Front
  Begun : List (List ℕ) → List ℕ → List Block → Open → Front

abbrev pub lines_in : Block → List (List ℕ)
lines_in (Single line) = line ∷ []
lines_in (Glyph g) = g.start ∷ g.head ++ g.bitmap ∷ g.rows ++ g.end ∷ []

abbrev pub open_lines : Open → List (List ℕ)
open_lines Outside = []
open_lines (InGlyph start head) = start ∷ head
open_lines (InBitmap start head bitmap rows) = start ∷ head ++ bitmap ∷ rows

abbrev pub front_lines : Front → List (List ℕ)
front_lines (Unbegun before) = before
front_lines (Begun before start blocks part) = before ++ start ∷ flat_map lines_in blocks ++ open_lines part

-- the lines that may speak of the font itself: those outside glyphs, and those of a glyph before its bitmap
abbrev pub font_lines_in : Block → List (List ℕ)
font_lines_in (Single line) = line ∷ []
font_lines_in (Glyph g) = g.head

abbrev pub head_of : Open → List (List ℕ)
head_of Outside = []
head_of (InGlyph start head) = head
head_of (InBitmap start head bitmap rows) = head

abbrev pub font_lines : List Block → Open → List (List ℕ)
font_lines blocks part = flat_map font_lines_in blocks ++ head_of part

-- ---- which of several like lines counts

-- the last value that lines give
abbrev pub last_given : {V : Type 0} → (List ℕ → Option V) → List (List ℕ) → Option V
last_given f [] = None
last_given f (line ∷ lines) = option_or (last_given f lines) (f line)

-- whether the properties are open behind a line
abbrev pub switched : Keyword → Bool → Bool
switched (keyword.Header in_header.StartProperties) on = true
switched (keyword.Header in_header.EndProperties) on = false
switched _ on = on

-- whether they are open behind lines
abbrev pub open_after : Bool → List (List ℕ) → Bool
open_after on [] = on
open_after on (line ∷ lines) = open_after (switched (says line) on) lines

-- The last value that lines give, of which each is told whether the properties are open.
abbrev pub last_property : {V : Type 0} → (Bool → List ℕ → Option V) → Bool → List (List ℕ) → Option V
last_property f on [] = None
last_property f on (line ∷ lines) = option_or (last_property f (switched (says line) on) lines) (f on line)

-- ---- what single lines give

abbrev pub title_in : Keyword → List ℕ → Option (List ℕ)
title_in (keyword.Header in_header.Name) rest = Some (trimmed rest)
title_in _ rest = None

abbrev pub box_in : Keyword → List ℕ → Option BoundingBox
box_in (keyword.Header in_header.Box) rest = bounding_box_of rest
box_in _ rest = None

-- properties, which count between the property lines alone
abbrev pub family_in : Bool → Keyword → List ℕ → Option (List ℕ)
family_in on (keyword.Header (in_header.Property property.FamilyName)) rest = if on then Some (family_name_of rest) else None
family_in on _ rest = None

abbrev pub ascent_in : Bool → Keyword → List ℕ → Option ℤ
ascent_in on (keyword.Header (in_header.Property property.Ascent)) rest = if on then offset_of (first_word rest) else None
ascent_in on _ rest = None

abbrev pub descent_in : Bool → Keyword → List ℕ → Option ℤ
descent_in on (keyword.Header (in_header.Property property.Descent)) rest = if on then offset_of (first_word rest) else None
descent_in on _ rest = None

abbrev pub default_in : Bool → Keyword → List ℕ → Option ℤ
default_in on (keyword.Header (in_header.Property property.DefaultChar)) rest = if on then whole_of (first_word rest) else None
default_in on _ rest = None

abbrev pub code_in : Keyword → List ℕ → Option ℤ
code_in (keyword.Glyph in_glyph.Encoding) rest = whole_of (first_word rest)
code_in _ rest = None

abbrev pub advance_in : Keyword → List ℕ → Option ℤ
advance_in (keyword.Glyph in_glyph.Width) rest = offset_of (first_word rest)
advance_in _ rest = None

abbrev pub cell_in : Keyword → List ℕ → Option BoundingBox
cell_in (keyword.Glyph in_glyph.Box) rest = bounding_box_of rest
cell_in _ rest = None

-- what a line gives, by its first word and what follows that
abbrev pub line_value : {V : Type 0} → (Keyword → List ℕ → Option V) → List ℕ → Option V
line_value f line = f (says line) (after_word line)

-- whether a line has the numbers that its keyword wants; those of properties are wanted between the property lines alone
abbrev pub is_read : Bool → Keyword → List ℕ → Bool
is_read on (keyword.Glyph in_glyph.Encoding) rest = is_some (whole_of (first_word rest))
is_read on (keyword.Glyph in_glyph.Width) rest = is_some (offset_of (first_word rest))
is_read on (keyword.Glyph in_glyph.Box) rest = is_some (bounding_box_of rest)
is_read on (keyword.Header in_header.Box) rest = is_some (bounding_box_of rest)
is_read on (keyword.Header (in_header.Property property.Ascent)) rest = not on || is_some (offset_of (first_word rest))
is_read on (keyword.Header (in_header.Property property.Descent)) rest = not on || is_some (offset_of (first_word rest))
is_read on (keyword.Header (in_header.Property property.DefaultChar)) rest = not on || is_some (whole_of (first_word rest))
is_read on _ rest = true

-- each of the lines has its numbers
abbrev pub AllRead : Bool → List (List ℕ) → Type 0
AllRead on [] = Unit {0}
AllRead on (line ∷ lines) = (is_read on (says line) (after_word line) ≡ true) × AllRead (switched (says line) on) lines

-- ---- a glyph

abbrev pub no_cell : BoundingBox
no_cell = record { w = 0; h = 0; x = pos 0; y = pos 0 }

-- the box of a glyph, where it has one
abbrev pub cell_said : List (List ℕ) → Option BoundingBox
cell_said head = last_given (line_value cell_in) head

abbrev pub cell_of : List (List ℕ) → BoundingBox
cell_of head = unwrap_or (cell_said head) no_cell

-- how many bytes a row of so many pixels has
abbrev pub row_len : ℕ → ℕ
row_len w = (w + 7) / 8

-- a row of so many bytes: two hexadecimal digits for each, between blanks
abbrev pub is_row : ℕ → List ℕ → Bool
is_row len line = (length (trimmed line) == 2 * len) && list_all is_hex_digit (trimmed line)

abbrev pub bytes_or_none : Result (List ℕ) FromHexError → List ℕ
bytes_or_none (Ok bytes) = bytes
bytes_or_none (Err _) = []

abbrev pub row_bytes : ℕ → List ℕ → List ℕ
row_bytes len line = bytes_or_none (decode_sized (trimmed line) len)

-- the bitmap of a box with these bytes
abbrev pub cell_pixels : BoundingBox → List ℕ → Pixels
cell_pixels cell bits = record { w = cell.w; h = cell.h; x = cell.x; y = cell.y; bits = bits }

-- what the lines of a glyph and its rows make; a missing code is -1, and a missing advance the width
abbrev pub glyph_in : List (List ℕ) → List (List ℕ) → FontGlyph
glyph_in head rows = bitmap_glyph
    (unwrap_or (last_given (line_value code_in) head) (negsuc 0))
    (unwrap_or (last_given (line_value advance_in) head) (pos (cell_of head).w))
    (cell_pixels (cell_of head) (flat_map (row_bytes (row_len (cell_of head).w)) rows))

abbrev pub glyphs_in : Block → List FontGlyph
glyphs_in (Single line) = []
glyphs_in (Glyph g) = glyph_in g.head g.rows ∷ []

abbrev pub glyphs_of : List Block → List FontGlyph
glyphs_of blocks = flat_map glyphs_in blocks

-- ---- the font

-- below 0 becomes 0
abbrev pub from_zero : ℤ → ℤ
from_zero (pos n) = pos n
from_zero (negsuc n) = pos 0

-- how far a box reaches above the baseline, and below it
abbrev pub box_top : Option BoundingBox → ℤ
box_top None = pos 0
box_top (Some cell) = pos cell.h +ℤ cell.y

abbrev pub box_depth : Option BoundingBox → ℤ
box_depth None = pos 0
box_depth (Some cell) = neg_ℤ cell.y

-- What these lines and glyphs make: the family name goes before the font's, and a missing ascent and descent are the box's.
abbrev pub font_said : List (List ℕ) → List FontGlyph → FontValue
font_said lines glyphs = bitmap_font
    (unwrap_or (last_property (λ on. line_value (family_in on)) false lines) (unwrap_or (last_given (line_value title_in) lines) []))
    (from_zero (unwrap_or (last_property (λ on. line_value (ascent_in on)) false lines) (box_top (last_given (line_value box_in) lines))))
    (from_zero (unwrap_or (last_property (λ on. line_value (descent_in on)) false lines) (box_depth (last_given (line_value box_in) lines))))
    (last_property (λ on. line_value (default_in on)) false lines)
    glyphs

-- ---- where a line may stand

-- before STARTFONT: unknown words, which the properties are there
abbrev pub is_passed : Keyword → Bool
is_passed keyword.Unknown = true
is_passed (keyword.Header (in_header.Property _)) = true
is_passed _ = false

-- outside glyphs, where it neither begins one nor ends the font
abbrev pub is_single : Keyword → Bool
is_single keyword.StartFont = true
is_single (keyword.Header _) = true
is_single keyword.Unknown = true
is_single _ = false

-- in a glyph, before its bitmap
abbrev pub is_in_head : Keyword → Bool
is_in_head (keyword.Glyph in_glyph.Encoding) = true
is_in_head (keyword.Glyph in_glyph.Width) = true
is_in_head (keyword.Glyph in_glyph.Box) = true
is_in_head kind = is_single kind

abbrev pub ArePassed : List (List ℕ) → Type 0
ArePassed lines = AllByRecursion (λ line. is_passed (says line) ≡ true) lines

abbrev pub AreInHead : List (List ℕ) → Type 0
AreInHead lines = AllByRecursion (λ line. is_in_head (says line) ≡ true) lines

abbrev pub AreRows : ℕ → List (List ℕ) → Type 0
AreRows len rows = AllByRecursion (λ line. is_row len line ≡ true) rows

-- A whole glyph: it has a box, and as many rows as that is high.
pub record IsGlyphBlock (g : GlyphBlock) : Type 0 where
  pub start : says g.start ≡ keyword.StartChar
  pub head : AreInHead g.head
  pub bitmap : says g.bitmap ≡ keyword.Glyph in_glyph.Bitmap
  pub cell : IsSome (cell_said g.head)
  pub rows : AreRows (row_len (cell_of g.head).w) g.rows
  pub high : length g.rows ≡ (cell_of g.head).h
  pub end : says g.end ≡ keyword.Glyph in_glyph.EndChar

abbrev pub IsBlock : Block → Type 0
IsBlock (Single line) = is_single (says line) ≡ true
IsBlock (Glyph g) = IsGlyphBlock g

abbrev pub IsOpen : Open → Type 0
IsOpen Outside = Unit {0}
IsOpen (InGlyph start head) = (says start ≡ keyword.StartChar) × AreInHead head
IsOpen (InBitmap start head bitmap rows) = (says start ≡ keyword.StartChar) × AreInHead head × (says bitmap ≡ keyword.Glyph in_glyph.Bitmap)
    × IsSome (cell_said head) × AreRows (row_len (cell_of head).w) rows × (length rows ≤ (cell_of head).h)

-- the glyphs that are begun and not ended
abbrev pub begun_in : Open → ℕ
begun_in Outside = 0
begun_in _ = 1

-- A front that a font may have: nothing in it leaves the format.
pub record IsBegun (before : List (List ℕ)) (start : List ℕ) (blocks : List Block) (part : Open) : Type 0 where
  pub passed : ArePassed before
  pub begins : says start ≡ keyword.StartFont
  pub whole : AllByRecursion IsBlock blocks
  pub begun : IsOpen part
  pub numbers : AllRead false (font_lines blocks part)
  pub room : length (glyphs_of blocks) + begun_in part ≤ max_glyphs

abbrev pub IsSoundFront : Front → Type 0
IsSoundFront (Unbegun before) = ArePassed before
IsSoundFront (Begun before start blocks part) = IsBegun before start blocks part

-- ---- how a line leaves the format

abbrev pub start_fault : Keyword → Option FontCause
start_fault keyword.StartFont = None
start_fault kind = if is_passed kind then None else Some NoStart

abbrev pub number_fault : Bool → Keyword → List ℕ → Option FontCause
number_fault on kind rest = if is_read on kind rest then None else Some BadNumber

abbrev pub single_fault : Bool → Keyword → List ℕ → Option FontCause
single_fault on (keyword.Glyph _) rest = Some Misplaced
single_fault on kind rest = number_fault on kind rest

-- in a glyph with this box or none
abbrev pub head_fault : Bool → Option BoundingBox → Keyword → List ℕ → Option FontCause
head_fault on cell keyword.StartChar rest = Some Misplaced
head_fault on cell keyword.EndFont rest = Some Misplaced
head_fault on cell (keyword.Glyph in_glyph.EndChar) rest = Some Misplaced
head_fault on cell (keyword.Glyph in_glyph.Bitmap) rest = if is_some cell then None else Some Misplaced
head_fault on cell kind rest = number_fault on kind rest

abbrev pub after_rows_fault : Keyword → Option FontCause
after_rows_fault (keyword.Glyph in_glyph.EndChar) = None
after_rows_fault _ = Some BadRow

-- in a bitmap of this box, behind so many rows
abbrev pub bitmap_fault : BoundingBox → ℕ → List ℕ → Option FontCause
bitmap_fault cell done line =
    if done == cell.h then after_rows_fault (says line)
    else if is_row (row_len cell.w) line then None else Some BadRow

-- how a line leaves the format behind a front, if it does
abbrev pub fault_after : Front → List ℕ → Option FontCause
fault_after (Unbegun before) line = start_fault (says line)
fault_after (Begun before start blocks Outside) line = single_fault (open_after false (font_lines blocks Outside)) (says line) (after_word line)
fault_after (Begun before start blocks (InGlyph begin head)) line = head_fault (open_after false (font_lines blocks (InGlyph begin head))) (cell_said head) (says line) (after_word line)
fault_after (Begun before start blocks (InBitmap begin head bitmap rows)) line = bitmap_fault (cell_of head) (length rows) line

-- ---- the answer to a text

-- The lines are whole blocks up to ENDFONT, which say this font; anything may follow.
pub record IsFontText (lines : List (List ℕ)) (font : FontValue) : Type 0 where
  pub before : List (List ℕ)
  pub start : List ℕ
  pub blocks : List Block
  pub end : List ℕ
  pub after : List (List ℕ)
  pub spelled : lines ≡ front_lines (Begun before start blocks Outside) ++ end ∷ after
  pub sound : IsBegun before start blocks Outside
  pub ended : says end ≡ keyword.EndFont
  pub said : font ≡ font_said (font_lines blocks Outside) (glyphs_of blocks)

-- The lines are a front, and the line behind it leaves the format.
pub record LeavesAt (lines : List (List ℕ)) (n : ℕ) (cause : FontCause) : Type 0 where
  pub front : Front
  pub line : List ℕ
  pub after : List (List ℕ)
  pub spelled : lines ≡ front_lines front ++ line ∷ after
  pub sound : IsSoundFront front
  pub place : n ≡ 1 + length (front_lines front)
  pub fault : fault_after front line ≡ Some cause

-- The lines are a front, and nothing follows it.
pub record LacksEnd (lines : List (List ℕ)) (n : ℕ) : Type 0 where
  pub front : Front
  pub spelled : lines ≡ front_lines front
  pub sound : IsSoundFront front
  pub place : n ≡ 1 + length lines

-- The lines are a prefix of 131,072 glyphs, and another glyph begins behind it.
pub record HasTooMany (lines : List (List ℕ)) : Type 0 where
  pub before : List (List ℕ)
  pub start : List ℕ
  pub blocks : List Block
  pub line : List ℕ
  pub after : List (List ℕ)
  pub spelled : lines ≡ front_lines (Begun before start blocks Outside) ++ line ∷ after
  pub sound : IsBegun before start blocks Outside
  pub full : length (glyphs_of blocks) ≡ max_glyphs
  pub begins : says line ≡ keyword.StartChar

-- the font that lines spell, the first line that leaves the format and how, or a glyph too many
abbrev pub IsFontAnswer : List (List ℕ) → Result FontValue FontRefusal → Type 0
IsFontAnswer lines (Ok font) = IsFontText lines font
IsFontAnswer lines (Err (BadFont n cause)) = LeavesAt lines n cause ⊎ ((cause ≡ NoEnd) × LacksEnd lines n)
IsFontAnswer lines (Err (TooLarge most)) = (most ≡ max_glyphs) × HasTooMany lines
IsFontAnswer lines (Err refusal.OutOfMemory) = ⊥
