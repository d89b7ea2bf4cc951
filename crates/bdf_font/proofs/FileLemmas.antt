-- Each file has one answer.
use Rattle.std.proofs.Common.{◌≡◌, ℕ, ◌<◌, ◌≤◌, Bool, true, false, List, [], ◌∷◌, length, map, Result, Ok, Err, All, refl, ap, sym, ◌∙◌, subst, arith}
use Rattle.std.specs.Prelude.{IfOk}
use Rattle.std.proofs.lemmas.List.{length-map}
use Rattle.sfnt_font.specs.declared.cause.SfntRefusal.{SfntRefusal}
use Rattle.sfnt_font.specs.declared.font.SfntFont.{SfntFont}
use Rattle.font_bytes.specs.Bytes.{u32_at}
use Rattle.sfnt_font.specs.Faces.{is_sfnt_kind, max_faces}
use Rattle.sfnt_font.specs.Fonts.{sfnts_of}
use Rattle.bdf_font.specs.declared.cause.FontFileRefusal.{FontFileRefusal}
use Rattle.bdf_font.specs.declared.cause.FontFileRefusal.TheVariants.{Lines, Bytes}
use Rattle.bdf_font.specs.declared.cause.FontRefusal.{FontRefusal}
use Rattle.bdf_font.specs.Files.{IsFontFileAnswer, IsKindAnswer, IsLinesAnswer, outlines_answer}
use Rattle.bdf_font.specs.Fonts.{FontValue}
use Rattle.bdf_font.specs.Grammar.{IsFontAnswer}
use Rattle.bdf_font.specs.Laws.{FilesHaveFonts, OneFileAnswer}
use Rattle.bdf_font.specs.Limits.{max_fonts}
use Rattle.bdf_font.specs.Outlines.{outline_font}
use Rattle.sfnt_font.proofs.ReadLemmas.{fonts_counted}
use Rattle.bdf_font.specs.Lines.{text_lines}
use Rattle.bdf_font.specs.Ranges.{IsFont}
use Rattle.std.proofs.lemmas.List.Elements.{All-cons, All-nil}
use Rattle.bdf_font.specs.Steps.{no_font_lines}
use Rattle.bdf_font.proofs.Walk.{lines_read}
use Rattle.bdf_font.proofs.Answering.{one_answer, read_answer}

abbrev lines_answer : Result FontValue FontRefusal → Result (List FontValue) FontFileRefusal
lines_answer (Ok font) = Ok (font ∷ [])
lines_answer (Err refused) = Err (Lines refused)

lines_answered : (lines : List (List ℕ)) (read : Result FontValue FontRefusal) → IsFontAnswer lines read → IsLinesAnswer lines (lines_answer read)
lines_answered lines (Ok font) is = (font, refl, is)
lines_answered lines (Err refused) is = is

lines_only : (lines : List (List ℕ)) (other : Result (List FontValue) FontFileRefusal) → IsLinesAnswer lines other → other ≡ lines_answer (lines_read 1 lines no_font_lines)
lines_only lines (Ok fonts) (font, only, is) = ap Ok only ∙ ap lines_answer (sym (one_answer lines (Ok font) is))
lines_only lines (Err (Lines refused)) is = ap lines_answer (sym (one_answer lines (Err refused) is))
lines_only lines (Err (Bytes refused)) is = absurd is

one_by : (is_sfnt : Bool) (bytes : List ℕ) → (answer : Result (List FontValue) FontFileRefusal) × IsKindAnswer is_sfnt bytes answer × ((other : Result (List FontValue) FontFileRefusal) → IsKindAnswer is_sfnt bytes other → other ≡ answer)
one_by true bytes = (outlines_answer (sfnts_of bytes), refl, λ other is. is)
one_by false bytes =
    let lines = text_lines bytes in
    let read = lines_read 1 lines no_font_lines in
    (lines_answer read, lines_answered lines read (read_answer lines), lines_only lines)

pub one_file_answer : OneFileAnswer
one_file_answer bytes = one_by (is_sfnt_kind (u32_at bytes 0)) bytes

-- ---- how many fonts a file has

-- the fonts of faces are as many as these
outlines_counted : (r : Result (List SfntFont) SfntRefusal) (fonts : List FontValue) → IfOk r (λ faces. (0 < length faces) × (length faces ≤ max_faces)) →
    Ok fonts ≡ outlines_answer r → (0 < length fonts) × (length fonts ≤ max_fonts)
outlines_counted (Ok faces) fonts is e =
    let same : fonts ≡ map outline_font faces = cc in
    let counted : length fonts ≡ length faces = ap length same ∙ length-map faces outline_font in
    (omega (arith, is.0, counted), omega (arith, is.1, counted))
outlines_counted (Err refused) fonts is e = absurd cc

kind_has_fonts : (is_sfnt : Bool) (bytes : List ℕ) (fonts : List FontValue) → IsKindAnswer is_sfnt bytes (Ok fonts) → (0 < length fonts) × (length fonts ≤ max_fonts)
kind_has_fonts true bytes fonts is = outlines_counted (sfnts_of bytes) fonts (fonts_counted bytes) is
kind_has_fonts false bytes fonts (font, only, is) =
    let counted : length fonts ≡ 1 = ap length only in
    (omega (arith, counted), omega (arith, counted))

pub files_have_fonts : FilesHaveFonts
files_have_fonts bytes fonts is = kind_has_fonts (is_sfnt_kind (u32_at bytes 0)) bytes fonts is

-- ---- what the calls that read a file answer

pub lines_file : (bytes : List ℕ) (fonts : List FontValue) (font : FontValue) → is_sfnt_kind (u32_at bytes 0) ≡ false → fonts ≡ font ∷ [] → IsFontAnswer (text_lines bytes) (Ok font) →
    IsFontFileAnswer bytes (Ok fonts)
lines_file bytes fonts font other e is = subst (λ (b : Bool). IsKindAnswer b bytes (Ok fonts)) (sym other) (font, e, is)

pub lines_refused : (bytes : List ℕ) (refused : FontRefusal) → is_sfnt_kind (u32_at bytes 0) ≡ false → IsFontAnswer (text_lines bytes) (Err refused) → IsFontFileAnswer bytes (Err (Lines refused))
lines_refused bytes refused other is = subst (λ (b : Bool). IsKindAnswer b bytes (Err (Lines refused))) (sym other) is

pub outlines_file : (bytes : List ℕ) (answer : Result (List FontValue) FontFileRefusal) → is_sfnt_kind (u32_at bytes 0) ≡ true → answer ≡ outlines_answer (sfnts_of bytes) → IsFontFileAnswer bytes answer
outlines_file bytes answer is e = subst (λ (b : Bool). IsKindAnswer b bytes answer) (sym is) e

pub one_sound : (fonts : List FontValue) (font : FontValue) → fonts ≡ font ∷ [] → IsFont font → All IsFont fonts
one_sound fonts font e is = subst (All IsFont) (sym e) (All-cons IsFont font [] is (All-nil IsFont))
