-- Public: the numbers of a font.
use Rattle.std.specs.Prelude.{ℕ, ◌+◌, ◌/◌, ◌%◌, ◌≤◌, max, Bool, ◌&&◌, not, ◌==◌, nat_le, if◌then◌else◌, List, Option, Some, None, Result, Ok, Err, ℤ, pos, ◌+ℤ◌, neg_ℤ, int_lt, ◌≤ℤ◌, IfSome}
use Rattle.std.specs.Option.{option_or}
use Rattle.std.specs.Ordering.{int_eq}
use Rattle.std.specs.Int.{int_max}
use Rattle.ass_num.specs.Floor.{floor_div}
use Rattle.ass_num.specs.Limits.{IsWithin}
use Rattle.sfnt_font.specs.declared.cause.SfntCause.TheVariants.{BadNumber}
use Rattle.sfnt_font.specs.declared.cause.SfntRefusal.{SfntRefusal}
use Rattle.sfnt_font.specs.declared.cause.SfntRefusal.TheVariants.{BadFont}
use Rattle.sfnt_font.specs.declared.directory.Directory.{Directory}
use Rattle.sfnt_font.specs.declared.directory.Table.{Table}
use Rattle.sfnt_font.specs.declared.tables.Tables.{Tables}
use Rattle.sfnt_font.specs.declared.numbers.Bar.{Bar}
use Rattle.sfnt_font.specs.declared.numbers.Heights.{Heights}
use Rattle.sfnt_font.specs.declared.numbers.Numbers.{Numbers}
use Rattle.font_bytes.specs.Bytes.{u16_at, s16_at}
use Rattle.sfnt_font.specs.Directory.{table_named, unless_short, metrics_name, post_name}

-- the heights, or others where these sum to 0
abbrev pub heights_or : Heights → Heights → Heights
heights_or first second = if int_eq (first.up +ℤ first.down) (pos 0) then second else first

-- heights of which the second is given upwards
abbrev pub heights_from : ℤ → ℤ → Heights
heights_from up low = record { up = up; down = neg_ℤ low }

-- the window of `OS/2`
abbrev pub window_heights : List ℕ → Table → Heights
window_heights bytes metrics = record { up = s16_at bytes (metrics.place + 74); down = s16_at bytes (metrics.place + 76) }

abbrev pub typographic_heights : List ℕ → Table → Heights
typographic_heights bytes metrics = heights_from (s16_at bytes (metrics.place + 68)) (s16_at bytes (metrics.place + 70))

abbrev pub line_heights : List ℕ → Table → Heights
line_heights bytes hhea = heights_from (s16_at bytes (hhea.place + 4)) (s16_at bytes (hhea.place + 6))

abbrev pub box_heights : List ℕ → Table → Heights
box_heights bytes head = heights_from (s16_at bytes (head.place + 42)) (s16_at bytes (head.place + 38))

abbrev pub no_heights : Heights
no_heights = record { up = pos 0; down = pos 0 }

-- the first of these heights that don't sum to 0
abbrev pub font_heights : List ℕ → Tables → Option Table → Heights
font_heights bytes tables None = heights_or (line_heights bytes tables.hhea) (heights_or (box_heights bytes tables.head) no_heights)
font_heights bytes tables (Some metrics) =
    heights_or (window_heights bytes metrics) (heights_or (line_heights bytes tables.hhea)
    (heights_or (typographic_heights bytes metrics) (heights_or (box_heights bytes tables.head) no_heights)))

-- a bar of this size whose middle lies at this height
abbrev pub bar_at : ℤ → ℤ → Bar
bar_at middle size = record { top = neg_ℤ (middle +ℤ floor_div size (pos 2)); size = size }

-- the same; a bar of no size is none
abbrev pub bar_of : ℤ → ℤ → Option Bar
bar_of middle size = if int_lt (pos 0) size then Some (bar_at middle size) else None

-- the bar whose middle and size stand at these places of a table, or else another one
abbrev pub bar_or : List ℕ → Option Table → ℕ → ℕ → Option Bar → Option Bar
bar_or bytes None middle size other = other
bar_or bytes (Some table) middle size other = option_or (bar_of (s16_at bytes (table.place + middle)) (s16_at bytes (table.place + size))) other

abbrev pub underline_of : List ℕ → ℕ → Option Table → Option Bar
underline_of bytes units post = bar_or bytes post 8 10 (bar_of (floor_div (neg_ℤ (pos units)) (pos 10)) (pos (units / 20)))

abbrev pub strikeout_of : List ℕ → ℕ → Option Table → Option Bar
strikeout_of bytes units metrics = bar_or bytes metrics 28 26 (bar_of (pos (units / 4)) (pos (units / 20)))

-- ---- weight and slant

-- the lowest bit of a number
abbrev pub has_low_bit : ℕ → Bool
has_low_bit n = n % 2 == 1

-- the weight by the style of `head`
abbrev pub style_weight : List ℕ → Table → ℕ
style_weight bytes head = if has_low_bit (u16_at bytes (head.place + 44)) then 700 else 400

-- a weight from 1 to 1,000, or else another one
abbrev pub weight_or : ℕ → ℕ → ℕ
weight_or weight other = if nat_le 1 weight && nat_le weight 1000 then weight else other

-- the weight of a font: that of `OS/2`, or else by the style of `head`
abbrev pub weight_of : List ℕ → Table → Option Table → ℕ
weight_of bytes head None = style_weight bytes head
weight_of bytes head (Some metrics) = weight_or (u16_at bytes (metrics.place + 4)) (style_weight bytes head)

-- whether a font is slanted, by `OS/2`, or without it by the style of `head`
abbrev pub is_slanted : List ℕ → Table → Option Table → Bool
is_slanted bytes head None = has_low_bit (u16_at bytes (head.place + 44) / 2)
is_slanted bytes head (Some metrics) = has_low_bit (u16_at bytes (metrics.place + 62))

-- the numbers of a font with these units, so many glyphs and these heights
abbrev pub made_numbers : List ℕ → Tables → Option Table → Option Table → Numbers
made_numbers bytes tables metrics post = record {
  units = u16_at bytes (tables.head.place + 18);
  glyphs = u16_at bytes (tables.maxp.place + 4);
  wide_places = not (u16_at bytes (tables.head.place + 50) == 0);
  advances = u16_at bytes (tables.hhea.place + 34);
  ascent = int_max (font_heights bytes tables metrics).up (pos 0);
  descent = int_max (font_heights bytes tables metrics).down (pos 0);
  underline = underline_of bytes (u16_at bytes (tables.head.place + 18)) post;
  strikeout = strikeout_of bytes (u16_at bytes (tables.head.place + 18)) metrics;
  bold_step = max (u16_at bytes (tables.head.place + 18) / 40) 1;
  weight = weight_of bytes tables.head metrics;
  slanted = is_slanted bytes tables.head metrics;
}

-- the numbers of a font, or the first that is 0 and may not be
abbrev pub sfnt_numbers : List ℕ → Directory → Tables → Result Numbers SfntRefusal
sfnt_numbers bytes directory tables =
    if u16_at bytes (tables.head.place + 18) == 0 then Err (BadFont (tables.head.place + 18) BadNumber)
    else if u16_at bytes (tables.maxp.place + 4) == 0 then Err (BadFont (tables.maxp.place + 4) BadNumber)
    else Ok (made_numbers bytes tables (unless_short 78 (table_named bytes directory metrics_name)) (unless_short 12 (table_named bytes directory post_name)))

-- A height, or how high a bar is. This is a condition of calls.
abbrev pub IsHeight : ℤ → Type 0
IsHeight z = IsWithin 32768 z

-- the weight of a font
abbrev pub IsWeight : ℕ → Type 0
IsWeight weight = (1 ≤ weight) × (weight ≤ 1000)

-- what holds of a bar
pub record IsFontBar (bar : Bar) : Type 0 where
  pub top : IsWithin 65536 bar.top
  pub size : pos 0 ≤ℤ bar.size
  pub size_most : bar.size ≤ℤ pos 65535

-- what holds of the numbers of each font
pub record AreFontNumbers (numbers : Numbers) : Type 0 where
  pub ascent : pos 0 ≤ℤ numbers.ascent
  pub ascent_most : numbers.ascent ≤ℤ pos 32768
  pub descent : pos 0 ≤ℤ numbers.descent
  pub descent_most : numbers.descent ≤ℤ pos 32768
  pub underline : IfSome numbers.underline IsFontBar
  pub strikeout : IfSome numbers.strikeout IsFontBar
  pub bold_step : 1 ≤ numbers.bold_step
  pub bold_most : numbers.bold_step ≤ 65535
  pub weight : IsWeight numbers.weight
