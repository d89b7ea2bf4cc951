-- The one lemma of all properties: behind an effect a property is what the effect alone makes of what it was before.
use Rattle.std.proofs.Common.{◌≡◌, ℕ, Bool, true, false, cond, List, [], ◌∷◌, refl, sym, ap, ◌∙◌, Option, None, Some}
use Rattle.std.specs.Prelude.{slice_get}
use Rattle.std.specs.List.{filter_map, cons_option}
use Rattle.ass_script.specs.Scripts.{ScriptValue}
use Rattle.ass_script.specs.declared.style.Style.{Style}
use Rattle.override_tags.specs.declared.tag.Tag.TheVariants.{Reset}
use Rattle.override_tags.specs.declared.view.State.{State}
use Rattle.override_tags.specs.declared.view.Syllable.{Syllable}
use Rattle.tag_state.specs.Setters.{Effect, Plain, Setter, Sets, Moves, Property, is_reset, since_reset, restyled, style_in_force, by_setters, setters_in, property_at}
use Rattle.tag_state.specs.Properties.{Measure, Size, ScaleX, ScaleY, Spacing, Angle, BorderX, BorderY, ShadowX, ShadowY, Edges, Blur, Offset, Bold, Italic, Underline, Strikeout, number, measure_of, Switch, switch, switch_of, byte, font, font_setter, level}
use Rattle.tag_state.specs.Syllables.{sung_at}
use Rattle.tag_state.specs.Laws.{IsOrdinary}
use Rattle.tag_state.specs.States.{IsStateAt}
use Rattle.tag_state.specs.Steps.{after_setter, property_after, IsStepped}

-- ---- one property

-- an effect that is no reset leaves the style in force
pub style_stays : (script : ScriptValue) (own : List ℕ) (effect : Effect) (style : Style) → is_reset effect ≡ false → restyled script own effect style ≡ style
style_stays script own (Plain (Reset name)) style kept = cc
style_stays script own effect style kept = refl

-- one more setter
by_one : {V : Type 0} (moved : V → V → ℕ → V) (styled : V) (o : Option (Setter V)) (earlier : List (Setter V))
    → by_setters moved styled (cons_option o earlier) ≡ after_setter moved styled (by_setters moved styled earlier) o
by_one moved styled None earlier = refl
by_one moved styled (Some (Sets new)) earlier = refl
by_one moved styled (Some (Moves weight new)) earlier = refl

-- one more effect that is no reset
setters_more : {V : Type 0} (p : Property V) (effect : Effect) (earlier : List Effect) → is_reset effect ≡ false → setters_in p (effect ∷ earlier) ≡ cons_option (p.setter effect) (setters_in p earlier)
setters_more p effect earlier kept = by_resets p.resets
  where
    by_resets : (b : Bool) → filter_map p.setter (cond b (cond (is_reset effect) [] (effect ∷ since_reset earlier)) (effect ∷ earlier)) ≡ cons_option (p.setter effect) (filter_map p.setter (cond b (since_reset earlier) earlier))
    by_resets true = rw kept refl
    by_resets false = refl

pub value_step : {V : Type 0} (p : Property V) (script : ScriptValue) (own : List ℕ) (effect : Effect) (earlier : List Effect) → is_reset effect ≡ false
    → property_at p script own (effect ∷ earlier) ≡ property_after p (style_in_force script own earlier) effect (property_at p script own earlier)
value_step p script own effect earlier kept =
    ap (λ style. by_setters p.moved (p.styled style) (setters_in p (effect ∷ earlier))) (style_stays script own effect (style_in_force script own earlier) kept)
    ∙ (ap (λ setters. by_setters p.moved (p.styled (style_in_force script own earlier)) setters) (setters_more p effect earlier kept)
    ∙ by_one p.moved (p.styled (style_in_force script own earlier)) (p.setter effect) (setters_in p earlier))

-- ---- the whole state

-- A state behind an effect that is no reset, with a font and a syllable of its own.
pub state_core : (script : ScriptValue) (own : List ℕ) (names : List (List ℕ)) (effect : Effect) (earlier : List Effect) (old mid : State) (number_of_font : ℕ) (syllable : Option Syllable)
    → IsStateAt script own names earlier old → IsStepped (style_in_force script own earlier) effect old mid → is_reset effect ≡ false
    → slice_get names number_of_font ≡ Some (property_at font script own (effect ∷ earlier))
    → syllable ≡ sung_at (effect ∷ earlier)
    → IsStateAt script own names (effect ∷ earlier) (record mid { font = number_of_font; sung = syllable })
state_core script own names effect earlier old mid number_of_font syllable at step kept named sung = record {
  font = named;
  numbers = numbers;
  switches = switches;
  colours = λ c place four. step.colours c place four ∙ (ap (property_after (byte c place) style effect) (at.colours c place four) ∙ sym (value_step (byte c place) script own effect earlier kept));
  border_style = step.border_style ∙ (at.border_style ∙ sym (ap (λ s. s.border_style) (style_stays script own effect style kept)));
  draw = step.draw ∙ (ap (property_after level style effect) at.draw ∙ sym (value_step level script own effect earlier kept));
  sung = sung;
}
  where
    style : Style
    style = style_in_force script own earlier

    new : State
    new = record mid { font = number_of_font; sung = syllable }

    number_step : (m : Measure) → measure_of m mid ≡ property_at (number m) script own (effect ∷ earlier)
    number_step m = step.numbers m ∙ (ap (property_after (number m) style effect) (at.numbers m) ∙ sym (value_step (number m) script own effect earlier kept))

    numbers : (m : Measure) → measure_of m new ≡ property_at (number m) script own (effect ∷ earlier)
    numbers Size = number_step Size
    numbers ScaleX = number_step ScaleX
    numbers ScaleY = number_step ScaleY
    numbers Spacing = number_step Spacing
    numbers Angle = number_step Angle
    numbers BorderX = number_step BorderX
    numbers BorderY = number_step BorderY
    numbers ShadowX = number_step ShadowX
    numbers ShadowY = number_step ShadowY
    numbers Edges = number_step Edges
    numbers Blur = number_step Blur
    numbers Offset = number_step Offset

    switch_step : (s : Switch) → switch_of s mid ≡ property_at (switch s) script own (effect ∷ earlier)
    switch_step s = step.switches s ∙ (ap (property_after (switch s) style effect) (at.switches s) ∙ sym (value_step (switch s) script own effect earlier kept))

    switches : (s : Switch) → switch_of s new ≡ property_at (switch s) script own (effect ∷ earlier)
    switches Bold = switch_step Bold
    switches Italic = switch_step Italic
    switches Underline = switch_step Underline
    switches Strikeout = switch_step Strikeout

-- the font behind an effect that sets none
pub font_stays : (script : ScriptValue) (own : List ℕ) (effect : Effect) (earlier : List Effect) → is_reset effect ≡ false → font_setter effect ≡ None
    → property_at font script own (effect ∷ earlier) ≡ property_at font script own earlier
font_stays script own effect earlier kept none =
    value_step font script own effect earlier kept
    ∙ ap (after_setter font.moved (font.styled (style_in_force script own earlier)) (property_at font script own earlier)) none

-- the state behind an ordinary effect
pub state_step : (script : ScriptValue) (own : List ℕ) (names : List (List ℕ)) (effect : Effect) (earlier : List Effect) (old new : State)
    → IsStateAt script own names earlier old → IsStepped (style_in_force script own earlier) effect old new → IsOrdinary effect → IsStateAt script own names (effect ∷ earlier) new
state_step script own names effect earlier old new at step ordinary =
    state_core script own names effect earlier old new new.font new.sung at step ordinary.no_reset
    (ap (slice_get names) step.font ∙ (at.font ∙ ap Some (sym (font_stays script own effect earlier ordinary.no_reset ordinary.no_font))))
    (step.sung ∙ (at.sung ∙ sym (ordinary.no_syllable earlier (sung_at earlier))))
