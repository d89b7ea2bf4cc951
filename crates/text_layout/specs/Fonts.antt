-- Public: the fonts of a layout, which of them a state has, and what is drawn where that one isn't slanted or bold itself.
-- (Aegisub tag reference, "\fn", "\b", "\i".)
use Rattle.std.specs.Prelude.{ℕ, ◌<◌, ◌≤◌, ◌&&◌, nat_lt, not, Bool, List, [], length, map, slice_index_or, All}
use Rattle.bdf_font.specs.Fonts.{FontValue}
use Rattle.bdf_font.specs.Limits.{max_fonts}
use Rattle.bdf_font.specs.Ranges.{IsFont}
use Rattle.bdf_font.specs.Sets.{font_chosen}
use Rattle.override_tags.specs.declared.view.EventView.{EventView}
use Rattle.override_tags.specs.declared.view.State.{State}

-- Fonts by whose places layout finds them: from 1 to 64.
pub record IsLayoutFontSet (fonts : List FontValue) : Type 0 where
  pub some : 0 < length fonts
  pub few : length fonts ≤ max_fonts
  pub each : All IsFont fonts

-- the place of the font of a state: that of its name, bold and italic
abbrev pub font_of_state : List FontValue → List (List ℕ) → State → ℕ
font_of_state fonts names state = font_chosen (slice_index_or names state.font []) state.bold state.italic fonts

-- the places of the fonts of a view's states
abbrev pub state_fonts : List FontValue → EventView → List ℕ
state_fonts fonts view = map (font_of_state fonts view.names) view.states

-- the weight from which a font's letters are bold themselves
abbrev pub least_bold_weight : ℕ
least_bold_weight = 550

-- Letters of an italic state are slanted where their font isn't so itself.
abbrev pub needs_slant : FontValue → State → Bool
needs_slant font state = state.italic && not font.slanted

-- Bold letters are drawn a step wider where their font isn't bold.
abbrev pub needs_bold_step : FontValue → State → Bool
needs_bold_step font state = state.bold && nat_lt font.weight least_bold_weight
