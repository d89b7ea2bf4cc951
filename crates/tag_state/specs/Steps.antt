-- Public: what one effect does to a state, property by property.
use Rattle.std.specs.Prelude.{◌≡◌, ℕ, ◌+◌, ◌^◌, ◌<◌, ℤ, pos, ◌+ℤ◌, ◌≤ℤ◌, Bool, if◌then◌else◌, Option, Some, None, unwrap_or}
use Rattle.std.specs.Int.RustNames.{unsigned_abs}
use Rattle.std.specs.Option.{option_map}
use Rattle.ass_num.specs.Colours.{colour_of}
use Rattle.ass_num.specs.declared.colour.Rgba.{Rgba}
use Rattle.ass_script.specs.declared.script.Header.{Header}
use Rattle.ass_script.specs.declared.style.Style.{Style}
use Rattle.override_tags.specs.Singles.{whole}
use Rattle.override_tags.specs.declared.tag.ClipTag.{ClipTag}
use Rattle.override_tags.specs.declared.tag.ClipTag.TheVariants.{Rect}
use Rattle.override_tags.specs.declared.tag.GradualTag.{GradualTag}
use Rattle.override_tags.specs.declared.tag.GradualTag.TheVariants as gradual
use Rattle.override_tags.specs.declared.tag.Tag.{Tag}
use Rattle.override_tags.specs.declared.tag.Tag.TheVariants as tag
use Rattle.event_instants.specs.Instants.{moved}
use Rattle.override_tags.specs.declared.view.State.{State}
use Rattle.override_tags.specs.declared.view.Syllable.{Syllable}
use Rattle.tag_arguments.specs.declared.kinds.Num.{Num}
use Rattle.tag_arguments.specs.declared.kinds.Num.TheVariants as num
use Rattle.tag_arguments.specs.declared.kinds.Sung.{Sung}
use Rattle.tag_state.specs.Choices.{corners_from, corners_moved}
use Rattle.tag_state.specs.Setters.{Effect, Plain, Gradual, Setter, Sets, Moves, Property}
use Rattle.tag_state.specs.Properties.{Measure, Size, ScaleX, ScaleY, Spacing, Angle, BorderX, BorderY, ShadowX, ShadowY, Edges, Blur, Offset, number, measure_of, sets_measure, given_number, styled_number, sets_switch, is_on, styled_switch, level_of, has_alpha, moved_byte, Switch, Bold, Italic, Underline, Strikeout, switch, switch_of, Channel, byte, byte_in, colour_at, level}

abbrev pub after_setter : {V : Type 0} → (V → V → ℕ → V) → V → V → Option (Setter V) → V
after_setter moved styled old None = old
after_setter moved styled old (Some (Sets new)) = unwrap_or new styled
after_setter moved styled old (Some (Moves weight new)) = moved old (unwrap_or new styled) weight

-- the value of a property behind an effect
abbrev pub property_after : {V : Type 0} → Property V → Style → Effect → V → V
property_after p style effect old = after_setter p.moved (p.styled style) old (p.setter effect)

-- Each property is what the effect makes of it. Fonts and syllables stay.
pub record IsStepped (style : Style) (effect : Effect) (old new : State) : Type 0 where
  pub font : new.font ≡ old.font
  pub numbers : (m : Measure) → measure_of m new ≡ property_after (number m) style effect (measure_of m old)
  pub switches : (s : Switch) → switch_of s new ≡ property_after (switch s) style effect (switch_of s old)
  pub colours : (c : Channel) (place : ℕ) → place < 4 → byte_in c (colour_at new.colours place) ≡ property_after (byte c place) style effect (byte_in c (colour_at old.colours place))
  pub border_style : new.border_style ≡ old.border_style
  pub draw : new.draw ≡ property_after level style effect old.draw
  pub sung : new.sung ≡ old.sung

-- the effect of a number with a weight, or without one
abbrev pub number_effect : Option ℕ → Num → Option ℤ → Effect
number_effect None property value = Plain (tag.Number property value)
number_effect (Some weight) property value = Gradual weight (gradual.Number property value)

abbrev pub colour_effect : Option ℕ → ℕ → Option ℕ → Effect
colour_effect None which value = Plain (tag.Colour which value)
colour_effect (Some weight) which value = Gradual weight (gradual.Colour which value)

abbrev pub alpha_effect : Option ℕ → ℕ → Option ℕ → Effect
alpha_effect None which value = Plain (tag.Alpha which value)
alpha_effect (Some weight) which value = Gradual weight (gradual.Alpha which value)

-- a value that is set, or moved where there is a weight
abbrev pub set_or_moved : {V : Type 0} → (V → V → ℕ → V) → V → V → Option ℕ → V
set_or_moved moved old new None = new
set_or_moved moved old new (Some weight) = moved old new weight

-- ---- numbers

abbrev pub number_after : Measure → Style → Num → Option ℤ → Option ℕ → ℤ → ℤ
number_after m style property value weight old =
    if sets_measure m property then set_or_moved moved old (unwrap_or (given_number property value) (styled_number m style)) weight else old

-- the state whose numbers a tag has set
abbrev pub numbers_after : Style → Num → Option ℤ → Option ℕ → State → State
numbers_after style property value weight state = record state {
  size = number_after Size style property value weight state.size;
  scale_x = number_after ScaleX style property value weight state.scale_x;
  scale_y = number_after ScaleY style property value weight state.scale_y;
  spacing = number_after Spacing style property value weight state.spacing;
  angle = number_after Angle style property value weight state.angle;
  border_x = number_after BorderX style property value weight state.border_x;
  border_y = number_after BorderY style property value weight state.border_y;
  shadow_x = number_after ShadowX style property value weight state.shadow_x;
  shadow_y = number_after ShadowY style property value weight state.shadow_y;
  edges = number_after Edges style property value weight state.edges;
  blur = number_after Blur style property value weight state.blur;
  offset = number_after Offset style property value weight state.offset;
}

-- what a number makes of a switch whose style has a value
abbrev pub switch_value : Switch → Option ℤ → Bool → Bool
switch_value s value styled = unwrap_or (option_map (is_on s) value) styled

abbrev pub switch_after : Switch → Style → Num → Option ℤ → Bool → Bool
switch_after s style property value old = if sets_switch s property then switch_value s value (styled_switch s style) else old

abbrev pub level_said : Option ℤ → ℕ
level_said value = unwrap_or (option_map level_of value) 0

abbrev pub level_after : Num → Option ℤ → ℕ → ℕ
level_after num.Draw value old = level_said value
level_after _ value old = old

-- and its switches and its level of drawings
abbrev pub number_stepped : Style → Num → Option ℤ → State → State
number_stepped style property value state = record (numbers_after style property value None state) {
  bold = switch_after Bold style property value state.bold;
  italic = switch_after Italic style property value state.italic;
  underline = switch_after Underline style property value state.underline;
  strikeout = switch_after Strikeout style property value state.strikeout;
  draw = level_after property value state.draw;
}

-- ---- colours

-- a colour whose red, green and blue are set, or moved where there is a weight
abbrev pub recoloured : Rgba → Rgba → Option ℕ → Rgba
recoloured old new weight = record {
  r = set_or_moved moved_byte old.r new.r weight;
  g = set_or_moved moved_byte old.g new.g weight;
  b = set_or_moved moved_byte old.b new.b weight;
  a = old.a;
}

-- what a colour makes of the one at its place
abbrev pub colour_after : Style → ℕ → Option ℕ → Option ℕ → Rgba → Rgba
colour_after style place value weight old = recoloured old (unwrap_or (option_map colour_of value) (colour_at style.colours place)) weight

-- what an alpha of a number makes of the colour at a place
abbrev pub alpha_after : Style → ℕ → ℕ → Option ℕ → Option ℕ → Rgba → Rgba
alpha_after style place which value weight old =
    if has_alpha which place then record old { a = set_or_moved moved_byte old.a (unwrap_or value (colour_at style.colours place).a) weight } else old

-- ---- syllables and styles

-- a syllable behind another one
abbrev pub syllable_behind : Option Syllable → Sung → ℤ → Syllable
syllable_behind None kind len = record { kind = kind; begin = pos 0; end = len; index = 0 }
syllable_behind (Some last) kind len = record { kind = kind; begin = last.end; end = last.end +ℤ len; index = last.index + 1 }

-- so many milliseconds of a song, and fewer syllables than a number of 32 bits can count
pub record HasSongRoom (last : Syllable) : Type 0 where
  pub begun : pos 0 ≤ℤ last.end
  pub short : last.end ≤ℤ pos (2 ^ 62)
  pub few : last.index + 1 < 2 ^ 32

-- the state of a style whose font has this number
abbrev pub styled_state : Style → ℕ → State
styled_state style font = record {
  font = font;
  size = style.size;
  colours = style.colours;
  bold = style.bold;
  italic = style.italic;
  underline = style.underline;
  strikeout = style.strikeout;
  scale_x = style.scale_x;
  scale_y = style.scale_y;
  spacing = style.spacing;
  angle = style.angle;
  border_style = style.border_style;
  border_x = style.outline;
  border_y = style.outline;
  shadow_x = style.shadow;
  shadow_y = style.shadow;
  edges = pos 0;
  blur = pos 0;
  draw = 0;
  offset = pos 0;
  sung = None;
}

-- the state behind a reset
abbrev pub restyled_state : State → Style → ℕ → State
restyled_state state style font = record (styled_state style font) { draw = state.draw; offset = state.offset; sung = state.sung }

-- the wrap style that a tag sets, or restores where it has none
abbrev pub wrap_said : Tag → Option (Option ℤ)
wrap_said (tag.Number num.Wrap value) = Some value
wrap_said _ = None

-- what a tag that sets a wrap style, or sets none, makes of the one before
abbrev pub wrap_step : Option (Option ℤ) → ℕ → ℕ → ℕ
wrap_step None scripted old = old
wrap_step (Some value) scripted old = unwrap_or (option_map (λ v. unsigned_abs (whole v)) value) scripted

-- what a tag of a transform of a weight makes of the clip
abbrev pub clip_step : Header → ℕ → GradualTag → Option ClipTag → Option ClipTag
clip_step header weight (gradual.Clip corners inverse) old = Some (Rect (corners_moved (corners_from header old) corners weight) inverse)
clip_step header weight _ old = old

-- a tag of a transform that is no clip
abbrev pub IsNoClip : GradualTag → Type 0
IsNoClip (gradual.Clip _ _) = ⊥
IsNoClip _ = Unit {0}
