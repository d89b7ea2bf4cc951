-- Public: fonts, and what is found in them.
use Rattle.std.specs.Prelude.{ℕ, ◌+◌, Bool, false, if◌then◌else◌, List, [], ◌∷◌, Option, Some, None, option_and_then, ℤ, pos, negsuc, neg_ℤ, ◌-ℤ◌}
use Rattle.std.specs.Option.{option_or}
use Rattle.std.specs.Ordering.{int_eq}
use Rattle.ass_num.specs.Floor.{floor_div}
use Rattle.sfnt_font.specs.declared.numbers.Bar.{Bar}
use Rattle.bdf_font.specs.declared.glyphs.FontGlyph.{FontGlyph}

-- A font as contracts see it. Its bars and the step of its bold glyphs are in the units of its glyphs: pixels of bitmaps, or units of contours.
-- It is found by the names of its families and by its full names, and told by `name`. Its weight is 400 for regular letters and 700 for bold ones.
pub record FontValue : Type 0 where
  pub name : List ℕ
  pub families : List (List ℕ)
  pub full_names : List (List ℕ)
  pub weight : ℕ
  pub slanted : Bool
  pub is_outline : Bool
  pub ascent : ℤ
  pub descent : ℤ
  pub default_char : Option ℤ
  pub glyphs : List FontGlyph
  pub underline : Option Bar
  pub strikeout : Option Bar
  pub bold_step : ℤ

-- where the strikeout of bitmaps begins: half of the font's ascent and one pixel above the baseline
abbrev pub strikeout_top : ℤ → ℤ
strikeout_top ascent = neg_ℤ (floor_div ascent (pos 2)) -ℤ pos 1

-- a bar one pixel high
abbrev pub pixel_bar : ℤ → Bar
pixel_bar top = record { top = top; size = pos 1 }

-- the weight of regular letters, and that of bold ones
abbrev pub regular_weight : ℕ
regular_weight = 400

abbrev pub bold_weight : ℕ
bold_weight = 700

-- A font of bitmaps. Its family is its name, and its letters are regular and upright. Its bars are one pixel high, and its bold glyphs one pixel wider.
abbrev pub bitmap_font : List ℕ → ℤ → ℤ → Option ℤ → List FontGlyph → FontValue
bitmap_font name ascent descent default_char glyphs = record {
  name = name;
  families = name ∷ [];
  full_names = [];
  weight = regular_weight;
  slanted = false;
  is_outline = false;
  ascent = ascent;
  descent = descent;
  default_char = default_char;
  glyphs = glyphs;
  underline = Some (pixel_bar (pos 1));
  strikeout = Some (pixel_bar (strikeout_top ascent));
  bold_step = pos 1;
}

-- the place of the first glyph with this code, where the first of the glyphs has the place n
abbrev pub place_from : ℕ → ℤ → List FontGlyph → Option ℕ
place_from n code [] = None
place_from n code (g ∷ glyphs) = if int_eq g.code code then Some n else place_from (n + 1) code glyphs

-- the place of the first glyph with this code; -1 is the code of none
abbrev pub place_of : List FontGlyph → ℤ → Option ℕ
place_of glyphs code = if int_eq code (negsuc 0) then None else place_from 0 code glyphs

-- the place of the first glyph with the default code
abbrev pub place_of_default : Option ℤ → List FontGlyph → Option ℕ
place_of_default default_char glyphs = option_and_then (place_of glyphs) default_char

-- the glyph of a character: the first with its code, or else the first with the default code
abbrev pub glyph_of : FontValue → ℕ → Option ℕ
glyph_of font c = option_or (place_of font.glyphs (pos c)) (place_of_default font.default_char font.glyphs)
