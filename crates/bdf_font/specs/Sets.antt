-- Public: sets of fonts: which font a name finds, and which glyph a character.
use Rattle.std.specs.Prelude.{◌≡◌, ℕ, ◌+◌, ◌<◌, Bool, true, false, ◌==◌, nat_lt, if◌then◌else◌, List, [], ◌∷◌, length, All, Option, Some, None, option_map, option_and_then, slice_get, slice_index_or, pos}
use Rattle.std.specs.Int.{abs_diff}
use Rattle.std.specs.List.{list_any}
use Rattle.std.specs.Option.{option_map_or, option_or}
use Rattle.ass_num.specs.Names.{same_name}
use Rattle.bdf_font.specs.declared.glyphs.FontGlyph.{FontGlyph}
use Rattle.bdf_font.specs.declared.sets.Candidate.{Candidate}
use Rattle.bdf_font.specs.declared.sets.GlyphPlace.{GlyphPlace}
use Rattle.bdf_font.specs.Fonts.{FontValue, bold_weight, glyph_of, place_of, regular_weight}

-- a font without glyphs, which stands for none
abbrev pub no_font : FontValue
no_font = record {
  name = [];
  families = [];
  full_names = [];
  weight = regular_weight;
  slanted = false;
  is_outline = false;
  ascent = pos 0;
  descent = pos 0;
  default_char = None;
  glyphs = [];
  underline = None;
  strikeout = None;
  bold_step = pos 0;
}

-- ---- the font of a name

-- a name without the `@` of vertical writing before it
abbrev pub without_at : List ℕ → List ℕ
without_at [] = []
without_at (c ∷ rest) = if c == 64 then rest else c ∷ rest

-- the name that a font is asked for; a font of outlines passes an `@` over
abbrev pub asked_name : List ℕ → FontValue → List ℕ
asked_name name font = if font.is_outline then without_at name else name

-- whether one of these names is this one
abbrev pub is_among : List ℕ → List (List ℕ) → Bool
is_among name names = list_any (λ own. same_name own name) names

-- whether a font has this full name
abbrev pub has_full_name : List ℕ → FontValue → Bool
has_full_name name font = is_among (asked_name name font) font.full_names

-- whether it is of this family
abbrev pub is_of_family : List ℕ → FontValue → Bool
is_of_family name font = is_among (asked_name name font) font.families

-- the slant of letters, in hundredths: of oblique letters, and the one that is wanted of italic ones
abbrev pub slant_of : Bool → ℕ
slant_of slanted = if slanted then 110 else 0

abbrev pub wanted_slant : Bool → ℕ
wanted_slant italic = if italic then 100 else 0

abbrev pub wanted_weight : Bool → ℕ
wanted_weight bold = if bold then bold_weight else regular_weight

-- how far a font is from the weight and the slant that are wanted
abbrev pub style_distance : Bool → Bool → FontValue → ℕ
style_distance bold italic font = abs_diff font.weight (wanted_weight bold) + abs_diff (slant_of font.slanted) (wanted_slant italic)

-- How far a font is from what is asked for: one of the family by its weight and its slant, any other with this full name not at all.
abbrev pub name_distance : List ℕ → Bool → Bool → FontValue → Option ℕ
name_distance name bold italic font =
    if is_of_family name font then Some (style_distance bold italic font) else if has_full_name name font then Some 0 else None

-- the font at a place, if it answers to the name
abbrev pub candidate_at : List ℕ → Bool → Bool → ℕ → FontValue → Option Candidate
candidate_at name bold italic n font = option_map (λ distance. record { place = n; distance = distance }) (name_distance name bold italic font)

-- the nearer of two; of two as near as one another the first
abbrev pub nearer : Option Candidate → Option Candidate → Option Candidate
nearer None second = second
nearer first None = first
nearer (Some first) (Some second) = if nat_lt second.distance first.distance then Some second else Some first

-- the nearest of the fonts that answer to the name, where the first of the fonts has the place n
abbrev pub nearest_from : List ℕ → Bool → Bool → ℕ → List FontValue → Option Candidate
nearest_from name bold italic n [] = None
nearest_from name bold italic n (font ∷ fonts) = nearer (candidate_at name bold italic n font) (nearest_from name bold italic (n + 1) fonts)

-- the place of a candidate; 0 where there is none
abbrev pub candidate_place : Option Candidate → ℕ
candidate_place None = 0
candidate_place (Some candidate) = candidate.place

-- The place of the font that a name finds, bold or not and italic or not: of the nearest that answers to it, the first of those as near as one another, or else 0.
abbrev pub font_chosen : List ℕ → Bool → Bool → List FontValue → ℕ
font_chosen name bold italic fonts = candidate_place (nearest_from name bold italic 0 fonts)

-- ---- the glyph of a character

-- whether the glyph at a place is drawn for missing characters
abbrev pub is_missing_at : List FontGlyph → ℕ → Bool
is_missing_at glyphs place = option_map_or (λ (glyph : FontGlyph). glyph.missing) (slice_get glyphs place) true

-- a place, unless its glyph is
abbrev pub unless_missing : List FontGlyph → ℕ → Option ℕ
unless_missing glyphs place = if is_missing_at glyphs place then None else Some place

-- the place of the glyph that a font has for a character itself
abbrev pub mapped_place : FontValue → ℕ → Option ℕ
mapped_place font c = option_and_then (unless_missing font.glyphs) (place_of font.glyphs (pos c))

-- a place of a font's glyph among those of a set
abbrev pub glyph_place_in : ℕ → Option ℕ → Option GlyphPlace
glyph_place_in number found = option_map (λ place. record { font = number; glyph = place }) found

-- the glyph of the first font that has one for a character itself, where the first of the fonts has the place n
abbrev pub mapped_from : ℕ → ℕ → List FontValue → Option GlyphPlace
mapped_from c n [] = None
mapped_from c n (font ∷ fonts) = option_or (glyph_place_in n (mapped_place font c)) (mapped_from c (n + 1) fonts)

-- whether a font of a set has outlines
abbrev pub has_outlines : List FontValue → Bool
has_outlines fonts = list_any (λ font. font.is_outline) fonts

-- the glyph of another font: the first that has one for a character itself, in a set with a font of outlines
abbrev pub glyph_elsewhere : List FontValue → ℕ → Option GlyphPlace
glyph_elsewhere fonts c = if has_outlines fonts then mapped_from c 0 fonts else None

-- The glyph of a character in the font with this number: the one that the font has for it itself, or else that of another font, or else
-- the one that the font draws for missing characters.
abbrev pub set_glyph_of : List FontValue → ℕ → ℕ → Option GlyphPlace
set_glyph_of fonts number c =
    let font = slice_index_or fonts number no_font in
    option_or (glyph_place_in number (mapped_place font c)) (option_or (glyph_elsewhere fonts c) (glyph_place_in number (glyph_of font c)))

-- A glyph of a set: its font is one of the set, and it is one of the font's.
abbrev pub IsGlyphPlaceIn : List FontValue → GlyphPlace → Type 0
IsGlyphPlaceIn fonts found = (found.font < length fonts) × (found.glyph < length (slice_index_or fonts found.font no_font).glyphs)

-- ---- sets of bitmaps

-- A font that is found by its name alone, as the only one of its family.
pub record IsFoundByName (font : FontValue) : Type 0 where
  pub families : font.families ≡ font.name ∷ []
  pub full_names : font.full_names ≡ []
  pub weight : font.weight ≡ regular_weight
  pub slanted : font.slanted ≡ false
  pub is_outline : font.is_outline ≡ false

-- A font as lines spell it: it is found so, and each glyph is drawn for its own code.
pub record IsBitmapFont (font : FontValue) : Type 0 where
  pub by_name : IsFoundByName font
  pub mapped : All (λ (glyph : FontGlyph). glyph.missing ≡ false) font.glyphs

-- All fonts of a set are so.
abbrev pub AreBitmapFonts : List FontValue → Type 0
AreBitmapFonts fonts = All IsBitmapFont fonts

-- the place of the first font of this name, where the first of the fonts has the place n; 0 where there is none
abbrev pub named_from : ℕ → List ℕ → List FontValue → ℕ
named_from n name [] = 0
named_from n name (font ∷ fonts) = if same_name font.name name then n else named_from (n + 1) name fonts

-- the place of the first font of this name, or else 0
abbrev pub font_named : List ℕ → List FontValue → ℕ
font_named name fonts = named_from 0 name fonts
