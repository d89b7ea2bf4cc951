-- Public: the table of properties: what a style says of each, and which tags set it (docs/TAGS.md).
use Rattle.std.specs.Prelude.{ℕ, ◌+◌, ◌==◌, ◌||◌, ℤ, pos, int_lt, int_le, Bool, true, false, if◌then◌else◌, List, [], slice_index_or, Option, Some, None, option_and_then}
use Rattle.std.specs.Int.{int_max}
use Rattle.std.specs.Int.RustNames.{unsigned_abs}
use Rattle.std.specs.Option.{option_map}
use Rattle.std.specs.Ordering.{int_eq}
use Rattle.ass_num.specs.Colours.{colour_of}
use Rattle.ass_num.specs.Floor.{held}
use Rattle.ass_num.specs.declared.colour.Rgba.{Rgba}
use Rattle.ass_script.specs.declared.style.Style.{Style}
use Rattle.event_instants.specs.Instants.{moved}
use Rattle.override_tags.specs.Limits.{max_tag_scale}
use Rattle.override_tags.specs.Singles.{whole}
use Rattle.override_tags.specs.declared.tag.GradualTag.TheVariants as gradual
use Rattle.override_tags.specs.declared.tag.Tag.TheVariants as tag
use Rattle.override_tags.specs.declared.view.State.{State}
use Rattle.tag_arguments.specs.declared.kinds.Num.{Num}
use Rattle.tag_arguments.specs.declared.kinds.Num.TheVariants as num
use Rattle.tag_state.specs.Setters.{Effect, Plain, Gradual, Setter, Sets, Moves, Property, replaced}

-- ---- numbers

pub data Measure : Type 0 where
  Size : Measure
  ScaleX : Measure
  ScaleY : Measure
  Spacing : Measure
  Angle : Measure
  BorderX : Measure
  BorderY : Measure
  ShadowX : Measure
  ShadowY : Measure
  Edges : Measure
  Blur : Measure
  Offset : Measure

-- whether a number of this name sets the property: `\bord` and `\shad` set two
abbrev pub sets_measure : Measure → Num → Bool
sets_measure Size num.Size = true
sets_measure ScaleX num.ScaleX = true
sets_measure ScaleY num.ScaleY = true
sets_measure Spacing num.Spacing = true
sets_measure Angle num.Angle = true
sets_measure BorderX num.Border = true
sets_measure BorderX num.BorderX = true
sets_measure BorderY num.Border = true
sets_measure BorderY num.BorderY = true
sets_measure ShadowX num.Shadow = true
sets_measure ShadowX num.ShadowX = true
sets_measure ShadowY num.Shadow = true
sets_measure ShadowY num.ShadowY = true
sets_measure Edges num.Edges = true
sets_measure Blur num.Blur = true
sets_measure Offset num.Offset = true
sets_measure _ _ = false

-- what is below 0 becomes 0
abbrev pub not_below_0 : ℤ → ℤ
not_below_0 value = int_max (pos 0) value

-- The value that a number gives. A size that isn't above 0 restores the style's.
abbrev pub given : Num → ℤ → Option ℤ
given num.Size value = if int_lt (pos 0) value then Some value else None
given num.ScaleX value = Some (not_below_0 value)
given num.ScaleY value = Some (not_below_0 value)
given num.Border value = Some (not_below_0 value)
given num.BorderX value = Some (not_below_0 value)
given num.BorderY value = Some (not_below_0 value)
given num.Shadow value = Some (not_below_0 value)
given num.Edges value = Some (not_below_0 value)
given num.Blur value = Some (not_below_0 value)
given _ value = Some value

abbrev pub given_number : Num → Option ℤ → Option ℤ
given_number property value = option_and_then (given property) value

abbrev pub number_setter : Measure → Effect → Option (Setter ℤ)
number_setter m (Plain (tag.Number property value)) = if sets_measure m property then Some (Sets (given_number property value)) else None
number_setter m (Gradual weight (gradual.Number property value)) = if sets_measure m property then Some (Moves weight (given_number property value)) else None
number_setter m _ = None

abbrev pub styled_number : Measure → Style → ℤ
styled_number Size style = style.size
styled_number ScaleX style = style.scale_x
styled_number ScaleY style = style.scale_y
styled_number Spacing style = style.spacing
styled_number Angle style = style.angle
styled_number BorderX style = style.outline
styled_number BorderY style = style.outline
styled_number ShadowX style = style.shadow
styled_number ShadowY style = style.shadow
styled_number Edges style = pos 0
styled_number Blur style = pos 0
styled_number Offset style = pos 0

-- `\r` leaves the shift of drawings
abbrev pub resets_measure : Measure → Bool
resets_measure Offset = false
resets_measure _ = true

abbrev pub number : Measure → Property ℤ
number m = record { styled = styled_number m; setter = number_setter m; resets = resets_measure m; moved = moved }

abbrev pub measure_of : Measure → State → ℤ
measure_of Size state = state.size
measure_of ScaleX state = state.scale_x
measure_of ScaleY state = state.scale_y
measure_of Spacing state = state.spacing
measure_of Angle state = state.angle
measure_of BorderX state = state.border_x
measure_of BorderY state = state.border_y
measure_of ShadowX state = state.shadow_x
measure_of ShadowY state = state.shadow_y
measure_of Edges state = state.edges
measure_of Blur state = state.blur
measure_of Offset state = state.offset

-- ---- switches

pub data Switch : Type 0 where
  Bold : Switch
  Italic : Switch
  Underline : Switch
  Strikeout : Switch

abbrev pub sets_switch : Switch → Num → Bool
sets_switch Bold num.Bold = true
sets_switch Italic num.Italic = true
sets_switch Underline num.Underline = true
sets_switch Strikeout num.Strikeout = true
sets_switch _ _ = false

-- on where the number is 1; bold is also a weight from 600 on
abbrev pub is_on : Switch → ℤ → Bool
is_on Bold value = int_eq value (pos 1000) || int_le (pos 600000) value
is_on _ value = int_eq value (pos 1000)

abbrev pub switch_setter : Switch → Effect → Option (Setter Bool)
switch_setter s (Plain (tag.Number property value)) = if sets_switch s property then Some (Sets (option_map (is_on s) value)) else None
switch_setter s _ = None

abbrev pub styled_switch : Switch → Style → Bool
styled_switch Bold style = style.bold
styled_switch Italic style = style.italic
styled_switch Underline style = style.underline
styled_switch Strikeout style = style.strikeout

abbrev pub switch : Switch → Property Bool
switch s = record { styled = styled_switch s; setter = switch_setter s; resets = true; moved = replaced }

abbrev pub switch_of : Switch → State → Bool
switch_of Bold state = state.bold
switch_of Italic state = state.italic
switch_of Underline state = state.underline
switch_of Strikeout state = state.strikeout

-- ---- the bytes of the four colours

pub data Channel : Type 0 where
  Red : Channel
  Green : Channel
  Blue : Channel
  Opacity : Channel

abbrev pub byte_in : Channel → Rgba → ℕ
byte_in Red colour = colour.r
byte_in Green colour = colour.g
byte_in Blue colour = colour.b
byte_in Opacity colour = colour.a

-- the colour at a place of the four; tags number them from 1
abbrev pub colour_at : List Rgba → ℕ → Rgba
colour_at colours place = slice_index_or colours place (record { r = 0; g = 0; b = 0; a = 0 })

-- An alpha of number 0 is that of all four.
abbrev pub has_alpha : ℕ → ℕ → Bool
has_alpha which place = (which == 0) || (which == place + 1)

abbrev pub alpha_setter : ℕ → Effect → Option (Setter ℕ)
alpha_setter place (Plain (tag.Alpha which value)) = if has_alpha which place then Some (Sets value) else None
alpha_setter place (Gradual weight (gradual.Alpha which value)) = if has_alpha which place then Some (Moves weight value) else None
alpha_setter place _ = None

-- A colour leaves the alpha.
abbrev pub colour_setter : Channel → ℕ → Effect → Option (Setter ℕ)
colour_setter c place (Plain (tag.Colour which value)) = if which == place + 1 then Some (Sets (option_map (λ n. byte_in c (colour_of n)) value)) else None
colour_setter c place (Gradual weight (gradual.Colour which value)) = if which == place + 1 then Some (Moves weight (option_map (λ n. byte_in c (colour_of n)) value)) else None
colour_setter c place _ = None

abbrev pub byte_setter : Channel → ℕ → Effect → Option (Setter ℕ)
byte_setter Opacity place effect = alpha_setter place effect
byte_setter c place effect = colour_setter c place effect

-- a byte that a weight moves
abbrev pub moved_byte : ℕ → ℕ → ℕ → ℕ
moved_byte old new weight = unsigned_abs (moved (pos old) (pos new) weight)

abbrev pub byte : Channel → ℕ → Property ℕ
byte c place = record { styled = λ style. byte_in c (colour_at style.colours place); setter = byte_setter c place; resets = true; moved = moved_byte }

-- ---- font and drawings

-- An empty name restores the style's font.
abbrev pub named_font : List ℕ → Option (List ℕ)
named_font [] = None
named_font name = Some name

abbrev pub font_setter : Effect → Option (Setter (List ℕ))
font_setter (Plain (tag.FontName name)) = Some (Sets (named_font name))
font_setter _ = None

abbrev pub font : Property (List ℕ)
font = record { styled = λ style. style.font; setter = font_setter; resets = true; moved = replaced }

-- the level of drawings of a number, from 0 to 30
abbrev pub level_of : ℤ → ℕ
level_of value = unsigned_abs (held (pos 0) (pos max_tag_scale) (whole value))

abbrev pub level_setter : Effect → Option (Setter ℕ)
level_setter (Plain (tag.Number num.Draw value)) = Some (Sets (option_map level_of value))
level_setter _ = None

-- `\r` leaves the level of drawings
abbrev pub level : Property ℕ
level = record { styled = λ style. 0; setter = level_setter; resets = false; moved = replaced }
