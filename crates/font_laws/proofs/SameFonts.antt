-- Files that agree on a face have answers alike.
use Rattle.std.proofs.Common.{◌≡◌, ℕ, ◌<◌, List, Result, Ok, Err, refl, ap, sym, subst}
use Rattle.std.specs.Prelude.{is_none, IfOk}
use Rattle.sfnt_font.specs.declared.cause.SfntRefusal.{SfntRefusal}
use Rattle.sfnt_font.specs.declared.directory.Directory.{Directory}
use Rattle.sfnt_font.specs.declared.font.SfntFont.{SfntFont}
use Rattle.sfnt_font.specs.declared.maps.CharacterMap.{CharacterMap}
use Rattle.sfnt_font.specs.declared.names.FontNames.{FontNames}
use Rattle.sfnt_font.specs.declared.numbers.Numbers.{Numbers}
use Rattle.sfnt_font.specs.declared.segments.Segment.{Segment}
use Rattle.sfnt_font.specs.declared.tables.Tables.{Tables}
use Rattle.sfnt_font.specs.Answers.{then_read}
use Rattle.sfnt_font.specs.Faces.{face_count, face_place}
use Rattle.sfnt_font.specs.Directory.{directory_at, tables_of}
use Rattle.sfnt_font.specs.Numbers.{sfnt_numbers}
use Rattle.sfnt_font.specs.Maps.{map_of, segments_of}
use Rattle.sfnt_font.specs.Names.{font_names}
use Rattle.sfnt_font.specs.Fonts.{font_of}
use Rattle.sfnt_font.specs.Laws.{face_directory}
use Rattle.font_laws.specs.Laws.{AgreeOnDirectory, AreFontsAlike, AreAnswersAlike, BytesBehindChangeNothing}
use Rattle.font_laws.proofs.SameTables.{AreSameReadings, AgreeOnOutlines, AgreeOnTables, IsListed, faces_same, place_same, directory_same, tables_same}
use Rattle.font_laws.proofs.SameNumbers.{IsAnything, numbers_same}
use Rattle.font_laws.proofs.SameMaps.{IsMapOf, AreSegments, map_of_same, segments_same}
use Rattle.font_laws.proofs.SameNames.{font_names_same}
use Rattle.font_laws.proofs.SameGlyphs.{font_keeping, ShareTables, glyphs_same, advance_same, stretch_same}
use Rattle.font_laws.proofs.SameContours.{contours_same}
use Rattle.font_laws.proofs.SameCharstrings.{cff_blank_same, cff_contours_same}

-- one reading behind another, whose answers are alike
then_alike : {T : Type 0} (P : T → Type 0) (r s : Result T SfntRefusal) (f g : T → Result SfntFont SfntRefusal) → AreSameReadings P r s →
    ((x : T) → P x → r ≡ Ok x → AreAnswersAlike (f x) (g x)) → AreAnswersAlike (then_read r f) (then_read s g)
then_alike P (Ok x) s f g h step = subst (λ s. AreAnswersAlike (f x) (then_read s g)) h.same (step x h.holds refl)
then_alike P (Err refusal) s f g h step = subst (λ s. AreAnswersAlike (Err refusal) (then_read s g)) h.same refl

fonts_alike : (a b : List ℕ) (tables : Tables) (numbers : Numbers) (m : CharacterMap) (segments : List Segment) (names : FontNames) → ShareTables a b tables m segments →
    AreFontsAlike (font_keeping a tables numbers m segments names) (font_keeping b tables numbers m segments names)
fonts_alike a b tables numbers m segments names h = record {
  tables = refl;
  numbers = refl;
  character_map = refl;
  segments = refl;
  names = refl;
  codes = refl;
  glyphs = λ code. glyphs_same a b tables numbers m segments names code h;
  advances = λ glyph. advance_same a b tables.hmtx numbers.advances glyph h.agree.hmtx.0;
  blanks = λ glyph. ap is_none (stretch_same a b tables numbers m segments names glyph h.agree);
  contours = λ glyph. contours_same a b tables numbers m segments names glyph h.agree;
  strokes = λ cff units glyph is. cff_contours_same a b cff units glyph (subst (AgreeOnOutlines a b) is h.agree.outlines);
  blank_strokes = λ cff glyph is. cff_blank_same a b cff glyph (subst (AgreeOnOutlines a b) is h.agree.outlines);
}

named_alike : (a b : List ℕ) (tables : Tables) (numbers : Numbers) (m : CharacterMap) (segments : List Segment) (names other : FontNames) → names ≡ other → ShareTables a b tables m segments →
    AreFontsAlike (font_keeping a tables numbers m segments names) (font_keeping b tables numbers m segments other)
named_alike a b tables numbers m segments names other e h =
    subst (λ (other : FontNames). AreFontsAlike (font_keeping a tables numbers m segments names) (font_keeping b tables numbers m segments other)) e (fonts_alike a b tables numbers m segments names h)

font_alike : (a b : List ℕ) (place : ℕ) → AgreeOnDirectory a b place → AreAnswersAlike (font_of a (face_directory a place)) (font_of b (face_directory a place))
font_alike a b place h =
    then_alike (AgreeOnTables a b) (tables_of a (face_directory a place)) (tables_of b (face_directory a place)) _ _ (tables_same a b place h) (λ tables agree _.
    then_alike IsAnything (sfnt_numbers a (face_directory a place) tables) (sfnt_numbers b (face_directory a place) tables) _ _ (numbers_same a b place tables h agree) (λ numbers _ _.
    then_alike (IsMapOf tables.cmap) (map_of a tables.cmap) (map_of b tables.cmap) _ _ (map_of_same a b tables.cmap agree.cmap) (λ m is_map _.
    then_alike (AreSegments m.count) (segments_of a m) (segments_of b m) _ _ (segments_same a b tables.cmap m agree.cmap.0 is_map) (λ segments counted _.
    named_alike a b tables numbers m segments (font_names a (face_directory a place)) (font_names b (face_directory a place)) (font_names_same a b place h) (record { agree = agree; is_map = is_map; counted = counted })))))

place_alike : (a b : List ℕ) (place other : ℕ) → place ≡ other → AgreeOnDirectory a b place → AreAnswersAlike (then_read (directory_at a place) (font_of a)) (then_read (directory_at b other) (font_of b))
place_alike a b place other e h =
    subst (λ (other : ℕ). AreAnswersAlike (then_read (directory_at a place) (font_of a)) (then_read (directory_at b other) (font_of b))) e
    (then_alike (λ directory. directory ≡ face_directory a place) (directory_at a place) (directory_at b place) (font_of a) (font_of b) (directory_same a b place h) (λ directory is _.
    subst (λ (directory : Directory). AreAnswersAlike (font_of a directory) (font_of b directory)) (sym is) (font_alike a b place h)))

listed_face : (face n : ℕ) (r : Result ℕ SfntRefusal) → r ≡ Ok n → IfOk r (λ n. face < n) → face < n
listed_face face n r e h = subst (λ (r : Result ℕ SfntRefusal). IfOk r (λ n. face < n)) e h

pub are_answers_alike : BytesBehindChangeNothing
are_answers_alike a b face has h =
    then_alike (IsListed a) (face_count a) (face_count b) _ _ (faces_same a b h.lengths h.head) (λ n listed counted.
    place_alike a b (face_place a face) (face_place b face) (place_same a b face n h.head listed (listed_face face n (face_count a) counted has)) h)
