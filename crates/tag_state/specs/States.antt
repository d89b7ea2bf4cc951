-- Public: the state of a character: each property by the tags before it (docs/TAGS.md).
use Rattle.std.specs.Prelude.{◌≡◌, ℕ, ◌<◌, List, Some, slice_get}
use Rattle.ass_script.specs.Scripts.{ScriptValue}
use Rattle.override_tags.specs.declared.view.State.{State}
use Rattle.tag_state.specs.Setters.{Effect, style_in_force, property_at}
use Rattle.tag_state.specs.Properties.{Measure, number, measure_of, Switch, switch, switch_of, Channel, byte, byte_in, colour_at, font, level}
use Rattle.tag_state.specs.Syllables.{sung_at}

-- The state behind these effects, the last of which stands first, in an event of a style. Its font is a number into the names.
pub record IsStateAt (script : ScriptValue) (own : List ℕ) (names : List (List ℕ)) (before : List Effect) (state : State) : Type 0 where
  pub font : slice_get names state.font ≡ Some (property_at font script own before)
  pub numbers : (m : Measure) → measure_of m state ≡ property_at (number m) script own before
  pub switches : (s : Switch) → switch_of s state ≡ property_at (switch s) script own before
  pub colours : (c : Channel) (place : ℕ) → place < 4 → byte_in c (colour_at state.colours place) ≡ property_at (byte c place) script own before
  pub border_style : state.border_style ≡ (style_in_force script own before).border_style
  pub draw : state.draw ≡ property_at level script own before
  pub sung : state.sung ≡ sung_at before
