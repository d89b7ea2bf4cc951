-- Public: a state that is folded forward over the effects of a text is the state that looking back gives.
use Rattle.std.specs.Prelude.{◌≡◌, ℕ, ℤ, pos, false, List, [], ◌∷◌, Option, Some, None, slice_get, unwrap_or}
use Rattle.ass_script.specs.Scripts.{ScriptValue, style_for}
use Rattle.override_tags.specs.declared.tag.Tag.TheVariants.{Reset, FontName, Karaoke}
use Rattle.override_tags.specs.declared.view.State.{State}
use Rattle.override_tags.specs.declared.view.Syllable.{Syllable}
use Rattle.tag_arguments.specs.declared.kinds.Sung.{Sung}
use Rattle.tag_state.specs.Setters.{Effect, Plain, is_reset, reset_name, style_in_force}
use Rattle.tag_state.specs.Properties.{named_font, font_setter}
use Rattle.tag_state.specs.Syllables.{sung_by, sung_len, syllable_count}
use Rattle.tag_state.specs.States.{IsStateAt}
use Rattle.tag_state.specs.Steps.{IsStepped, styled_state, restyled_state, syllable_behind}

-- an effect that is no reset, no font and no syllable
pub record IsOrdinary (effect : Effect) : Type 0 where
  pub no_reset : is_reset effect ≡ false
  pub no_font : font_setter effect ≡ None
  pub no_syllable : (earlier : List Effect) (sung : Option Syllable) → sung_by earlier sung effect ≡ sung
  pub no_len : sung_len effect ≡ pos 0
  pub no_count : syllable_count effect ≡ 0

-- Before any effect it is the state of the event's style,
abbrev pub FirstState : Type 0
FirstState = (script : ScriptValue) (own : List ℕ) (names : List (List ℕ)) (number_of_font : ℕ) → slice_get names number_of_font ≡ Some (style_for own script).font
    → IsStateAt script own names [] (styled_state (style_for own script) number_of_font)

-- behind an ordinary effect each property is what the effect makes of it,
abbrev pub SteppedState : Type 0
SteppedState = (script : ScriptValue) (own : List ℕ) (names : List (List ℕ)) (effect : Effect) (earlier : List Effect) (old new : State)
    → IsStateAt script own names earlier old → IsStepped (style_in_force script own earlier) effect old new → IsOrdinary effect → IsStateAt script own names (effect ∷ earlier) new

-- behind a reset it is the state of a style, but for the level and the shift of drawings and the syllable,
abbrev pub ResetState : Type 0
ResetState = (script : ScriptValue) (own : List ℕ) (names : List (List ℕ)) (name : List ℕ) (earlier : List Effect) (old : State) (number_of_font : ℕ)
    → IsStateAt script own names earlier old → slice_get names number_of_font ≡ Some (style_for (reset_name own name) script).font
    → IsStateAt script own names (Plain (Reset name) ∷ earlier) (restyled_state old (style_for (reset_name own name) script) number_of_font)

-- behind a font it has another font,
abbrev pub FontState : Type 0
FontState = (script : ScriptValue) (own : List ℕ) (names : List (List ℕ)) (name : List ℕ) (earlier : List Effect) (old : State) (number_of_font : ℕ)
    → IsStateAt script own names earlier old → slice_get names number_of_font ≡ Some (unwrap_or (named_font name) (style_in_force script own earlier).font)
    → IsStateAt script own names (Plain (FontName name) ∷ earlier) (record old { font = number_of_font })

-- and behind the tag of a syllable another syllable.
abbrev pub SungState : Type 0
SungState = (script : ScriptValue) (own : List ℕ) (names : List (List ℕ)) (kind : Sung) (len : ℤ) (earlier : List Effect) (old : State)
    → IsStateAt script own names earlier old
    → IsStateAt script own names (Plain (Karaoke kind len) ∷ earlier) (record old { sung = Some (syllable_behind old.sung kind len) })
