-- Public: no byte outside a face's tables counts.
use Rattle.std.specs.Prelude.{◌≡◌, ℕ, ◌+◌, ◌*◌, ◌<◌, ◌≤◌, if◌then◌else◌, List, length, Result, Ok, Err, IfOk, IfSome}
use Rattle.sfnt_font.specs.declared.cause.Tag.{Tag}
use Rattle.sfnt_font.specs.declared.cause.SfntRefusal.{SfntRefusal}
use Rattle.sfnt_font.specs.declared.directory.Directory.{Directory}
use Rattle.sfnt_font.specs.declared.directory.Table.{Table}
use Rattle.sfnt_font.specs.declared.font.SfntFont.{SfntFont}
use Rattle.sfnt_font.specs.declared.tables.Outlines.TheVariants.{PostScriptOutlines}
use Rattle.cff_font.specs.declared.read.CffFont.{CffFont}
use Rattle.cff_font.specs.Glyphs.{cff_contours, is_blank_at_sight}
use Rattle.font_bytes.specs.Bytes.{u8_at, u32_at}
use Rattle.sfnt_font.specs.Faces.{face_count, face_place}
use Rattle.sfnt_font.specs.Directory.{cff_name, directory_end, table_end, table_named, name_of, metrics_name, post_name}
use Rattle.sfnt_font.specs.Names.{names_name}
use Rattle.sfnt_font.specs.Fonts.{sfnt_of, glyph_number}
use Rattle.sfnt_font.specs.Codes.{font_codes}
use Rattle.sfnt_glyphs.specs.Metrics.{advance_of}
use Rattle.sfnt_glyphs.specs.Glyphs.{contours_of, is_blank_glyph}
use Rattle.sfnt_font.specs.Laws.{face_directory, is_collection}

-- Two files agree from one place up to another.
pub record AgreeOn (a b : List ℕ) (from to : ℕ) : Type 0 where
  pub same : (i : ℕ) → from ≤ i → i < to → u8_at a i ≡ u8_at b i

-- They agree on a table.
abbrev pub AgreeOnTable : List ℕ → List ℕ → Table → Type 0
AgreeOnTable a b table = AgreeOn a b table.place (table_end table)

-- They agree on the table of this name, if the directory has one in the first of them.
abbrev pub AgreeOnNamed : List ℕ → List ℕ → Directory → ℕ → Type 0
AgreeOnNamed a b directory name = IfSome (table_named a directory name) (AgreeOnTable a b)

-- the byte behind the head of a file: that of a collection has the places of its faces
abbrev pub head_end : List ℕ → ℕ
head_end bytes = if is_collection bytes then 12 + 4 * u32_at bytes 8 else 12

-- They are as long as one another, and agree on the head of the file, on the head and the entries of the directory, and
-- on each table that is looked at.
pub record AgreeOnDirectory (a b : List ℕ) (place : ℕ) : Type 0 where
  pub lengths : length a ≡ length b
  pub head : AgreeOn a b 0 (head_end a)
  pub entries : AgreeOn a b place (directory_end (face_directory a place))
  pub needed : (tag : Tag) → AgreeOnNamed a b (face_directory a place) (name_of tag)
  pub outlines : AgreeOnNamed a b (face_directory a place) cff_name
  pub metrics : AgreeOnNamed a b (face_directory a place) metrics_name
  pub post : AgreeOnNamed a b (face_directory a place) post_name
  pub names : AgreeOnNamed a b (face_directory a place) names_name

abbrev pub AgreeOnFace : List ℕ → List ℕ → ℕ → Type 0
AgreeOnFace a b face = AgreeOnDirectory a b (face_place a face)

-- Two fonts differ at most in the bytes they keep: they have one list of glyphs, and each glyph is the same.
pub record AreFontsAlike (f g : SfntFont) : Type 0 where
  pub tables : f.tables ≡ g.tables
  pub numbers : f.numbers ≡ g.numbers
  pub character_map : f.character_map ≡ g.character_map
  pub segments : f.segments ≡ g.segments
  pub names : f.names ≡ g.names
  pub codes : font_codes f ≡ font_codes g
  pub glyphs : (code : ℕ) → glyph_number f code ≡ glyph_number g code
  pub advances : (glyph : ℕ) → advance_of f glyph ≡ advance_of g glyph
  pub blanks : (glyph : ℕ) → is_blank_glyph f glyph ≡ is_blank_glyph g glyph
  pub contours : (glyph : ℕ) → contours_of f glyph ≡ contours_of g glyph
  pub strokes : (cff : CffFont) (units glyph : ℕ) → f.tables.outlines ≡ PostScriptOutlines cff → cff_contours f.bytes cff units glyph ≡ cff_contours g.bytes cff units glyph
  pub blank_strokes : (cff : CffFont) (glyph : ℕ) → f.tables.outlines ≡ PostScriptOutlines cff → is_blank_at_sight f.bytes cff glyph ≡ is_blank_at_sight g.bytes cff glyph

-- the same fault, or fonts alike
abbrev pub AreAnswersAlike : Result SfntFont SfntRefusal → Result SfntFont SfntRefusal → Type 0
AreAnswersAlike (Ok f) (Ok g) = AreFontsAlike f g
AreAnswersAlike (Err refusal) (Err other) = refusal ≡ other
AreAnswersAlike f g = ⊥

-- Files that agree on a face have answers alike.
abbrev pub BytesBehindChangeNothing : Type 0
BytesBehindChangeNothing =
    (a b : List ℕ) (face : ℕ) → IfOk (face_count a) (λ n. face < n) → AgreeOnFace a b face → AreAnswersAlike (sfnt_of a face) (sfnt_of b face)
