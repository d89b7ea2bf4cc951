-- The state behind each kind of tag.
use Rattle.std.proofs.Common.{◌≡◌, ℕ, ◌+◌, ◌<◌, ◌≤◌, ℤ, pos, ◌+ℤ◌, List, [], ◌∷◌, ◌++◌, length, map, reverse, take, get_or, refl, sym, ap, ◌∙◌, subst, Option, None, Some, arith}
use Rattle.std.specs.Prelude.{slice_get, unwrap_or}
use Rattle.std.proofs.lemmas.Int.{ints}
use Rattle.std.proofs.lemmas.List.{reverse-append, map_more, take_all}
use Rattle.ass_script.specs.Scripts.{ScriptValue, style_for}
use Rattle.ass_script.specs.declared.style.Style.{Style}
use Rattle.event_instants.specs.Instants.{moved}
use Rattle.override_tags.specs.declared.tag.GradualTag.{GradualTag}
use Rattle.override_tags.specs.declared.tag.Tag.{Tag}
use Rattle.override_tags.specs.declared.tag.Tag.TheVariants.{Reset, FontName, Karaoke}
use Rattle.override_tags.specs.declared.tag.Tag.TheVariants as tags
use Rattle.tag_arguments.specs.declared.kinds.Num.{Num}
use Rattle.override_tags.specs.declared.view.State.{State}
use Rattle.override_tags.specs.declared.view.Syllable.{Syllable}
use Rattle.tag_arguments.specs.declared.kinds.Sung.{Sung}
use Rattle.tag_state.specs.Setters.{Effect, Plain, Gradual, reset_name, style_in_force, property_at, replaced}
use Rattle.tag_state.specs.Properties.{Measure, Size, ScaleX, ScaleY, Spacing, Angle, BorderX, BorderY, ShadowX, ShadowY, Edges, Blur, Offset, number, measure_of, Switch, Bold, Italic, Underline, Strikeout, switch, switch_of, font, named_font, number_setter, switch_setter, alpha_setter, colour_setter, level_setter, styled_number, styled_switch, Channel, Red, Green, Blue, Opacity, byte, byte_in, colour_at, moved_byte}
use Rattle.tag_state.specs.Syllables.{sung_at, sung_until, syllables_in}
use Rattle.tag_state.specs.Laws.{IsOrdinary}
use Rattle.tag_state.specs.States.{IsStateAt}
use Rattle.tag_state.specs.Steps.{after_setter, property_after, IsStepped, styled_state, restyled_state, syllable_behind}
use Rattle.tag_state.proofs.ChoiceLemmas.{map-reverse}
use Rattle.tag_state.proofs.SetterLemmas.{font_stays, state_core, state_step, value_step}

-- ---- states

-- the state of a style before any tag
pub first_state : (script : ScriptValue) (own : List ℕ) (names : List (List ℕ)) (number_of_font : ℕ) → slice_get names number_of_font ≡ Some (style_for own script).font
    → IsStateAt script own names [] (styled_state (style_for own script) number_of_font)
first_state script own names number_of_font named = record { font = named; numbers = numbers; switches = switches; colours = λ c place four. refl; border_style = refl; draw = refl; sung = refl }
  where
    first : State
    first = styled_state (style_for own script) number_of_font

    numbers : (m : Measure) → measure_of m first ≡ property_at (number m) script own []
    numbers Size = refl
    numbers ScaleX = refl
    numbers ScaleY = refl
    numbers Spacing = refl
    numbers Angle = refl
    numbers BorderX = refl
    numbers BorderY = refl
    numbers ShadowX = refl
    numbers ShadowY = refl
    numbers Edges = refl
    numbers Blur = refl
    numbers Offset = refl

    switches : (s : Switch) → switch_of s first ≡ property_at (switch s) script own []
    switches Bold = refl
    switches Italic = refl
    switches Underline = refl
    switches Strikeout = refl

-- the state behind a reset
pub reset_state : (script : ScriptValue) (own : List ℕ) (names : List (List ℕ)) (name : List ℕ) (earlier : List Effect) (old : State) (number_of_font : ℕ)
    → IsStateAt script own names earlier old → slice_get names number_of_font ≡ Some (style_for (reset_name own name) script).font
    → IsStateAt script own names (Plain (Reset name) ∷ earlier) (restyled_state old (style_for (reset_name own name) script) number_of_font)
reset_state script own names name earlier old number_of_font at named =
    record { font = named; numbers = numbers; switches = switches; colours = λ c place four. refl; border_style = refl; draw = at.draw; sung = at.sung }
  where
    new : State
    new = restyled_state old (style_for (reset_name own name) script) number_of_font

    numbers : (m : Measure) → measure_of m new ≡ property_at (number m) script own (Plain (Reset name) ∷ earlier)
    numbers Size = refl
    numbers ScaleX = refl
    numbers ScaleY = refl
    numbers Spacing = refl
    numbers Angle = refl
    numbers BorderX = refl
    numbers BorderY = refl
    numbers ShadowX = refl
    numbers ShadowY = refl
    numbers Edges = refl
    numbers Blur = refl
    numbers Offset = at.numbers Offset

    switches : (s : Switch) → switch_of s new ≡ property_at (switch s) script own (Plain (Reset name) ∷ earlier)
    switches Bold = refl
    switches Italic = refl
    switches Underline = refl
    switches Strikeout = refl

-- An effect that sets no number, switch, byte or level leaves them all.
pub sets_nothing : (effect : Effect) (style : Style) (state : State)
    → ((m : Measure) → number_setter m effect ≡ None) → ((s : Switch) → switch_setter s effect ≡ None)
    → ((place : ℕ) → alpha_setter place effect ≡ None) → ((c : Channel) (place : ℕ) → colour_setter c place effect ≡ None) → level_setter effect ≡ None
    → IsStepped style effect state state
sets_nothing effect style state numbers switches alphas hues none = record {
  font = refl;
  numbers = λ m. sym (ap (after_setter moved (styled_number m style) (measure_of m state)) (numbers m));
  switches = λ s. sym (ap (after_setter replaced (styled_switch s style) (switch_of s state)) (switches s));
  colours = colours;
  border_style = refl;
  draw = sym (ap (after_setter replaced 0 state.draw) none);
  sung = refl;
}
  where
    colours : (c : Channel) (place : ℕ) → place < 4 → byte_in c (colour_at state.colours place) ≡ property_after (byte c place) style effect (byte_in c (colour_at state.colours place))
    colours Red place four = sym (ap (after_setter moved_byte (byte_in Red (colour_at style.colours place)) (colour_at state.colours place).r) (hues Red place))
    colours Green place four = sym (ap (after_setter moved_byte (byte_in Green (colour_at style.colours place)) (colour_at state.colours place).g) (hues Green place))
    colours Blue place four = sym (ap (after_setter moved_byte (byte_in Blue (colour_at style.colours place)) (colour_at state.colours place).b) (hues Blue place))
    colours Opacity place four = sym (ap (after_setter moved_byte (byte_in Opacity (colour_at style.colours place)) (colour_at state.colours place).a) (alphas place))

-- ---- syllables

-- the last syllable by the lengths and the number of all
abbrev pub IsSong : Option Syllable → ℤ → ℕ → Type 0
IsSong None len count = (len ≡ pos 0) × (count ≡ 0)
IsSong (Some last) len count = (last.end ≡ len) × (last.index + 1 ≡ count)

song_same : (sung : Option Syllable) (len : ℤ) (count : ℕ) → IsSong sung len count → IsSong sung (len +ℤ pos 0) (count + 0)
song_same None len count song = (omega (arith, ints, song.0), omega (arith, song.1))
song_same (Some last) len count song = (omega (arith, ints, song.0), omega (arith, song.1))

pub song_is : (before : List Effect) → IsSong (sung_at before) (sung_until before) (syllables_in before)
song_is [] = (refl, refl)
song_is (Plain (Karaoke kind len) ∷ earlier) = (refl, refl)
song_is (effect ∷ earlier) = song_same (sung_at earlier) (sung_until earlier) (syllables_in earlier) (song_is earlier)

syllable_is : (sung : Option Syllable) (len : ℤ) (count : ℕ) (kind : Sung) (longer : ℤ) → IsSong sung len count
    → syllable_behind sung kind longer ≡ record { kind = kind; begin = len; end = len +ℤ longer; index = count }
syllable_is None len count kind longer song =
    let end : longer ≡ len +ℤ longer = omega (arith, ints, song.0) in
    let P : ℤ → Type 0 = λ z. syllable_behind None kind longer ≡ record { kind = kind; begin = z; end = len +ℤ longer; index = count } in
    let Q : ℤ → Type 0 = λ z. syllable_behind None kind longer ≡ record { kind = kind; begin = pos 0; end = z; index = count } in
    let R : ℕ → Type 0 = λ z. syllable_behind None kind longer ≡ record { kind = kind; begin = pos 0; end = longer; index = z } in
    subst P (sym song.0) (subst Q end (subst R (sym song.1) refl))
syllable_is (Some last) len count kind longer song =
    let P : ℤ → Type 0 = λ z. syllable_behind (Some last) kind longer ≡ record { kind = kind; begin = z; end = z +ℤ longer; index = count } in
    let R : ℕ → Type 0 = λ z. syllable_behind (Some last) kind longer ≡ record { kind = kind; begin = last.end; end = last.end +ℤ longer; index = z } in
    subst P song.0 (subst R song.1 refl)

pub syllable_at : (before : List Effect) (kind : Sung) (len : ℤ) → Some (syllable_behind (sung_at before) kind len) ≡ sung_at (Plain (Karaoke kind len) ∷ before)
syllable_at before kind len = ap Some (syllable_is (sung_at before) (sung_until before) (syllables_in before) kind len (song_is before))

-- ---- ordinary effects

pub gradual_ordinary : (weight : ℕ) (tag : GradualTag) → IsOrdinary (Gradual weight tag)
gradual_ordinary weight tag = record { no_reset = refl; no_font = refl; no_syllable = λ earlier sung. refl; no_len = refl; no_count = refl }

-- a tag that is no number, colour or alpha sets nothing
pub idle_steps : (tag : Tag) (style : Style) (state : State) → ((property : Num) (value : Option ℤ) → tag ≡ tags.Number property value → ⊥) → ((which : ℕ) (value : Option ℕ) → tag ≡ tags.Colour which value → ⊥)
    → ((which : ℕ) (value : Option ℕ) → tag ≡ tags.Alpha which value → ⊥) → IsStepped style (Plain tag) state state
idle_steps (tags.Number property value) style state no_number no_colour no_alpha = absurd (no_number property value refl)
idle_steps (tags.Colour which value) style state no_number no_colour no_alpha = absurd (no_colour which value refl)
idle_steps (tags.Alpha which value) style state no_number no_colour no_alpha = absurd (no_alpha which value refl)
idle_steps tag style state no_number no_colour no_alpha = sets_nothing (Plain tag) style state (λ m. refl) (λ s. refl) (λ place. refl) (λ c place. refl) refl

-- ---- transforms

-- a transform leaves the style in force
gradual_style : (script : ScriptValue) (own : List ℕ) (weight : ℕ) (tags : List GradualTag) (before : List Effect) → style_in_force script own (map (Gradual weight) tags ++ before) ≡ style_in_force script own before
gradual_style script own weight [] before = refl
gradual_style script own weight (tag ∷ tags) before = gradual_style script own weight tags before

transform_style : (script : ScriptValue) (own : List ℕ) (weight : ℕ) (tags : List GradualTag) (before : List Effect) → style_in_force script own (reverse (map (Gradual weight) tags) ++ before) ≡ style_in_force script own before
transform_style script own weight tags before =
    ap (λ z. style_in_force script own (z ++ before)) (sym (map-reverse (Gradual weight) tags)) ∙ gradual_style script own weight (reverse tags) before

-- one more tag of a transform
pub transform_more : (script : ScriptValue) (own : List ℕ) (names : List (List ℕ)) (style : Style) (weight : ℕ) (tags : List GradualTag) (place : ℕ) (d : GradualTag) (before : List Effect) (old new : State)
    → place < length tags → style ≡ style_in_force script own before
    → IsStateAt script own names (reverse (map (Gradual weight) (take place tags)) ++ before) old → IsStepped style (Gradual weight (get_or tags place d)) old new
    → IsStateAt script own names (reverse (map (Gradual weight) (take (place + 1) tags)) ++ before) new
transform_more script own names style weight tags place d before old new within style_is at step =
    let tag = get_or tags place d in
    let so_far = take place tags in
    let P : List Effect → Type 0 = λ z. IsStateAt script own names (z ++ before) new in
    let Q : Style → Type 0 = λ z. IsStepped z (Gradual weight tag) old new in
    let more : reverse (map (Gradual weight) (take (place + 1) tags)) ≡ Gradual weight tag ∷ reverse (map (Gradual weight) so_far) =
    ap reverse (map_more (Gradual weight) tags place d within) ∙ reverse-append (map (Gradual weight) so_far) (Gradual weight tag ∷ []) in
    subst P (sym more)
    (state_step script own names (Gradual weight tag) (reverse (map (Gradual weight) so_far) ++ before) old new at
    (subst Q (style_is ∙ sym (transform_style script own weight so_far before)) step) (gradual_ordinary weight tag))

pub transform_all : (script : ScriptValue) (own : List ℕ) (names : List (List ℕ)) (weight : ℕ) (tags : List GradualTag) (place : ℕ) (before : List Effect) (state : State) → length tags ≤ place
    → IsStateAt script own names (reverse (map (Gradual weight) (take place tags)) ++ before) state → IsStateAt script own names (reverse (map (Gradual weight) tags) ++ before) state
transform_all script own names weight tags place before state past at =
    let P : List GradualTag → Type 0 = λ z. IsStateAt script own names (reverse (map (Gradual weight) z) ++ before) state in
    subst P (take_all place tags past) at

-- ---- fonts and syllables

-- the state behind a font
pub font_state : (script : ScriptValue) (own : List ℕ) (names : List (List ℕ)) (name : List ℕ) (earlier : List Effect) (old : State) (number_of_font : ℕ)
    → IsStateAt script own names earlier old → slice_get names number_of_font ≡ Some (unwrap_or (named_font name) (style_in_force script own earlier).font)
    → IsStateAt script own names (Plain (FontName name) ∷ earlier) (record old { font = number_of_font })
font_state script own names name earlier old number_of_font at named =
    state_core script own names (Plain (FontName name)) earlier old old number_of_font old.sung at
    (sets_nothing (Plain (FontName name)) (style_in_force script own earlier) old (λ m. refl) (λ s. refl) (λ place. refl) (λ c place. refl) refl) refl
    (named ∙ ap Some (sym (value_step font script own (Plain (FontName name)) earlier refl))) at.sung

-- the state behind the tag of a syllable
pub sung_state : (script : ScriptValue) (own : List ℕ) (names : List (List ℕ)) (kind : Sung) (len : ℤ) (earlier : List Effect) (old : State)
    → IsStateAt script own names earlier old → IsStateAt script own names (Plain (Karaoke kind len) ∷ earlier) (record old { sung = Some (syllable_behind old.sung kind len) })
sung_state script own names kind len earlier old at =
    state_core script own names (Plain (Karaoke kind len)) earlier old old old.font (Some (syllable_behind old.sung kind len)) at
    (sets_nothing (Plain (Karaoke kind len)) (style_in_force script own earlier) old (λ m. refl) (λ s. refl) (λ place. refl) (λ c place. refl) refl) refl
    (at.font ∙ ap Some (sym (font_stays script own (Plain (Karaoke kind len)) earlier refl refl)))
    (ap (λ sung. Some (syllable_behind sung kind len)) at.sung ∙ syllable_at earlier kind len)
