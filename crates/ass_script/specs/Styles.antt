-- Public: styles: the built-in one, and those that Style lines spell.
use Rattle.std.specs.Prelude.{ℕ, ◌/◌, ◌%◌, ◌+◌, ◌-◌, ◌==◌, ◌&&◌, nat_le, Bool, false, not, if◌then◌else◌, List, [], ◌∷◌, slice_set, codes, ℤ, pos, negsuc}
use Rattle.std.specs.List.{slice_split}
use Rattle.std.specs.Option.{option_map_or}
use Rattle.std.specs.Int.{int_max}
use Rattle.std.specs.Ordering.{int_eq}
use Rattle.ass_num.specs.Colours.{colour_of}
use Rattle.ass_num.specs.declared.colour.Rgba.{Rgba}
use Rattle.ass_num.specs.Blanks.{trimmed}
use Rattle.ass_script.specs.Words.{is_comma}
use Rattle.ass_num.specs.Wholes.{whole_of}
use Rattle.ass_script.specs.Numbers.{milli_of, style_colour_of}
use Rattle.ass_script.specs.declared.lines.Version.{Version}
use Rattle.ass_script.specs.declared.lines.Version.TheVariants.{V4, V4Plus}
use Rattle.ass_script.specs.declared.style_field.StyleField.{StyleField}
use Rattle.ass_script.specs.declared.style_field.StyleField.TheVariants as field
use Rattle.ass_script.specs.declared.style.Style.{Style}

-- the built-in style: size 18, scales of 100 per cent, an outline and a shadow of 2, margins of 20
abbrev pub built_in_style : Style
built_in_style = record {
  name = codes "Default";
  font = [];
  size = pos 18000;
  colours = colour_of 0x00FF_FFFF ∷ colour_of 0x0000_FFFF ∷ colour_of 0 ∷ colour_of 0x8000_0000 ∷ [];
  bold = false;
  italic = false;
  underline = false;
  strikeout = false;
  scale_x = pos 100000;
  scale_y = pos 100000;
  spacing = pos 0;
  angle = pos 0;
  border_style = 1;
  outline = pos 2000;
  shadow = pos 2000;
  alignment = 2;
  margin_l = pos 20;
  margin_r = pos 20;
  margin_v = pos 20;
}

-- what a Style line says that names nothing; in `[V4 Styles]` the outline has the built-in back colour
abbrev pub bare_style : Version → Style
bare_style V4Plus = built_in_style
bare_style V4 = record built_in_style { colours = colour_of 0x00FF_FFFF ∷ colour_of 0x0000_FFFF ∷ colour_of 0x8000_0000 ∷ colour_of 0x8000_0000 ∷ [] }

-- ---- what a text puts in the place of a value; where it can't be read the value stays

abbrev pub milli_or : ℤ → List ℕ → ℤ
milli_or old text = option_map_or (λ n. n) (milli_of text) old

-- below 0 becomes 0
abbrev pub size_or : ℤ → List ℕ → ℤ
size_or old text = option_map_or (λ n. int_max (pos 0) n) (milli_of text) old

abbrev pub margin_or : ℤ → List ℕ → ℤ
margin_or old text = option_map_or (λ n. n) (whole_of text) old

-- on where the number isn't 0
abbrev pub flag_or : Bool → List ℕ → Bool
flag_or old text = option_map_or (λ n. not (int_eq n (pos 0))) (whole_of text) old

abbrev pub border_style_or : ℕ → List ℕ → ℕ
border_style_or old text = option_map_or (λ n. if int_eq n (pos 3000) then 3 else 1) (milli_of text) old

-- 1 to 9
abbrev pub alignment_in : ℤ → ℕ
alignment_in (pos n) = if (n % 1000 == 0) && (nat_le 1000 n && nat_le n 9000) then n / 1000 else 2
alignment_in (negsuc n) = 2

abbrev pub alignment_or : ℕ → List ℕ → ℕ
alignment_or old text = option_map_or alignment_in (milli_of text) old

-- 1 to 3 at the bottom, 5 to 7 at the top, 9 to 11 in the middle
abbrev pub old_alignment : ℕ → ℕ
old_alignment k =
    if nat_le 1 k && nat_le k 3 then k
    else if nat_le 5 k && nat_le k 7 then k + 2
    else if nat_le 9 k && nat_le k 11 then k - 5
    else 2

abbrev pub old_alignment_in : ℤ → ℕ
old_alignment_in (pos n) = if n % 1000 == 0 then old_alignment (n / 1000) else 2
old_alignment_in (negsuc n) = 2

abbrev pub old_alignment_or : ℕ → List ℕ → ℕ
old_alignment_or old text = option_map_or old_alignment_in (milli_of text) old

-- the colours where the text says the colour at place k
abbrev pub colours_with : ℕ → List Rgba → List ℕ → List Rgba
colours_with k colours text = option_map_or (λ n. slice_set colours k (colour_of n)) (style_colour_of text) colours

-- a style where the text of one field is said
abbrev pub with_field : StyleField → List ℕ → Style → Style
with_field field.Name text s = record s { name = text }
with_field field.Font text s = record s { font = text }
with_field field.Size text s = record s { size = size_or s.size text }
with_field field.PrimaryColour text s = record s { colours = colours_with 0 s.colours text }
with_field field.SecondaryColour text s = record s { colours = colours_with 1 s.colours text }
with_field field.OutlineColour text s = record s { colours = colours_with 2 s.colours text }
with_field field.BackColour text s = record s { colours = colours_with 3 s.colours text }
with_field field.Bold text s = record s { bold = flag_or s.bold text }
with_field field.Italic text s = record s { italic = flag_or s.italic text }
with_field field.Underline text s = record s { underline = flag_or s.underline text }
with_field field.Strikeout text s = record s { strikeout = flag_or s.strikeout text }
with_field field.ScaleX text s = record s { scale_x = size_or s.scale_x text }
with_field field.ScaleY text s = record s { scale_y = size_or s.scale_y text }
with_field field.Spacing text s = record s { spacing = milli_or s.spacing text }
with_field field.Angle text s = record s { angle = milli_or s.angle text }
with_field field.BorderStyle text s = record s { border_style = border_style_or s.border_style text }
with_field field.Outline text s = record s { outline = size_or s.outline text }
with_field field.Shadow text s = record s { shadow = size_or s.shadow text }
with_field field.Alignment text s = record s { alignment = alignment_or s.alignment text }
with_field field.OldAlignment text s = record s { alignment = old_alignment_or s.alignment text }
with_field field.MarginL text s = record s { margin_l = margin_or s.margin_l text }
with_field field.MarginR text s = record s { margin_r = margin_or s.margin_r text }
with_field field.MarginV text s = record s { margin_v = margin_or s.margin_v text }
with_field field.Other text s = s

-- The pieces say the fields, each the one at its own place; what has no piece keeps its value, and what has no field is passed over.
abbrev pub with_fields : List StyleField → List (List ℕ) → Style → Style
with_fields [] pieces s = s
with_fields (f ∷ fields) [] s = s
with_fields (f ∷ fields) (piece ∷ pieces) s = with_fields fields pieces (with_field f (trimmed piece) s)

-- the style that a Style line spells under a Format
abbrev pub style_of : Version → List StyleField → List ℕ → Style
style_of version fields value = with_fields fields (slice_split is_comma value) (bare_style version)
