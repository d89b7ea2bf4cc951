-- Public: the answer to a file of fonts, whose first four bytes tell its format.
use Rattle.std.specs.Prelude.{◌≡◌, ℕ, Bool, true, false, List, [], ◌∷◌, map, Result, Ok, Err}
use Rattle.sfnt_font.specs.declared.cause.SfntRefusal.{SfntRefusal}
use Rattle.sfnt_font.specs.declared.cause.SfntRefusal.TheVariants as sfnt
use Rattle.sfnt_font.specs.declared.font.SfntFont.{SfntFont}
use Rattle.font_bytes.specs.Bytes.{u32_at}
use Rattle.sfnt_font.specs.Faces.{is_sfnt_kind}
use Rattle.sfnt_font.specs.Fonts.{sfnts_of}
use Rattle.bdf_font.specs.declared.cause.FontFileRefusal.{FontFileRefusal}
use Rattle.bdf_font.specs.declared.cause.FontFileRefusal.TheVariants.{Lines, Bytes}
use Rattle.bdf_font.specs.declared.cause.FontRefusal.TheVariants as refusal
use Rattle.bdf_font.specs.Fonts.{FontValue}
use Rattle.bdf_font.specs.Grammar.{IsFontAnswer}
use Rattle.bdf_font.specs.Lines.{text_lines}
use Rattle.bdf_font.specs.Outlines.{outline_font}

-- the answer to the lines of a font of bitmaps, which is the one of its file
abbrev pub IsLinesAnswer : List (List ℕ) → Result (List FontValue) FontFileRefusal → Type 0
IsLinesAnswer lines (Ok fonts) = (font : FontValue) × (fonts ≡ font ∷ []) × IsFontAnswer lines (Ok font)
IsLinesAnswer lines (Err (Lines refused)) = IsFontAnswer lines (Err refused)
IsLinesAnswer lines (Err (Bytes refused)) = ⊥

-- the answer where the faces of a TrueType file were read so
abbrev pub outlines_answer : Result (List SfntFont) SfntRefusal → Result (List FontValue) FontFileRefusal
outlines_answer (Ok fonts) = Ok (map outline_font fonts)
outlines_answer (Err refused) = Err (Bytes refused)

-- the refusal of a file whose bytes are refused so; out of memory is one of the lines
abbrev pub file_refusal : SfntRefusal → FontFileRefusal
file_refusal sfnt.OutOfMemory = Lines refusal.OutOfMemory
file_refusal refused = Bytes refused

-- the answer to a file that is read as a TrueType font or not
abbrev pub IsKindAnswer : Bool → List ℕ → Result (List FontValue) FontFileRefusal → Type 0
IsKindAnswer true bytes answer = answer ≡ outlines_answer (sfnts_of bytes)
IsKindAnswer false bytes answer = IsLinesAnswer (text_lines bytes) answer

-- The answer to a file: the faces of a TrueType file are read, in their order, and any other file's lines.
abbrev pub IsFontFileAnswer : List ℕ → Result (List FontValue) FontFileRefusal → Type 0
IsFontFileAnswer bytes answer = IsKindAnswer (is_sfnt_kind (u32_at bytes 0)) bytes answer
