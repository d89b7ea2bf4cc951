-- The pen behind each kind of tag.
use Rattle.std.proofs.Common.{◌≡◌, ℕ, ◌+◌, ◌*◌, ℤ, pos, ◌≤ℤ◌, List, [], ◌∷◌, ◌++◌, length, map, reverse, refl, sym, subst, Option, Some, arith}
use Rattle.std.proofs.lemmas.Int.{ints}
use Rattle.ass_script.specs.Scripts.{ScriptValue, style_for}
use Rattle.ass_script.specs.declared.style.Style.{Style}
use Rattle.event_instants.specs.Instants.{moved, transform_weight}
use Rattle.override_tags.specs.Limits.{max_syllable}
use Rattle.override_tags.specs.declared.tag.GradualTag.{GradualTag}
use Rattle.override_tags.specs.declared.tag.Tag.TheVariants.{Reset, Karaoke, Transform}
use Rattle.override_tags.specs.declared.tag.Tag.{Tag}
use Rattle.override_tags.specs.Ranges.{IsHeldTag}
use Rattle.tag_state.specs.declared.fonts.Fonts.{Fonts}
use Rattle.override_tags.specs.declared.view.State.{State}
use Rattle.override_tags.specs.declared.view.Syllable.{Syllable}
use Rattle.tag_arguments.specs.declared.kinds.Sung.{Sung}
use Rattle.tag_state.specs.Setters.{Effect, Plain, Gradual, reset_name, style_in_force, effects_of_tag}
use Rattle.tag_state.specs.Syllables.{sung_until, syllables_in}
use Rattle.tag_state.specs.States.{IsStateAt}
use Rattle.tag_state.specs.Steps.{restyled_state, syllable_behind}
use Rattle.tag_state.specs.Walks.{Grow, IsFace, IsPen, AreFonts}
use Rattle.tag_state.specs.declared.pen.Face.{Face}
use Rattle.tag_state.specs.declared.pen.Pen.{Pen}
use Rattle.tag_state.specs.Laws.{IsOrdinary}
use Rattle.tag_state.proofs.ChoiceLemmas.{map-reverse}
use Rattle.tag_state.proofs.SetterLemmas.{style_stays}
use Rattle.tag_state.proofs.StateLemmas.{reset_state, sung_state}

-- ---- names

pub state_grows : (script : ScriptValue) (own : List ℕ) (names more : List (List ℕ)) (before : List Effect) (state : State) → Grow names more → IsStateAt script own names before state → IsStateAt script own more before state
state_grows script own names more before state grow at = record {
  font = grow.kept _ _ at.font;
  numbers = at.numbers;
  switches = at.switches;
  colours = at.colours;
  border_style = at.border_style;
  draw = at.draw;
  sung = at.sung;
}

pub face_grows : (names more : List (List ℕ)) (style : Style) (face : Face) → Grow names more → IsFace names style face → IsFace more style face
face_grows names more style face grow is = record { of = is.of; font = grow.kept _ _ is.font }

-- ---- the pen

-- Effects leave the style in force, and add no syllable.
pub record KeepsSong (script : ScriptValue) (own : List ℕ) (before behind : List Effect) : Type 0 where
  pub style : style_in_force script own behind ≡ style_in_force script own before
  pub count : syllables_in behind ≡ syllables_in before
  pub len : sung_until behind ≡ sung_until before

pub ordinary_keeps : (script : ScriptValue) (own : List ℕ) (effect : Effect) (before : List Effect) → IsOrdinary effect → KeepsSong script own before (effect ∷ before)
ordinary_keeps script own effect before ordinary = record {
  style = style_stays script own effect (style_in_force script own before) ordinary.no_reset;
  count = omega (arith, ordinary.no_count);
  len = omega (arith, ints, ordinary.no_len);
}

-- the effects of a transform
pub gradual_keeps : (script : ScriptValue) (own : List ℕ) (weight : ℕ) (tags : List GradualTag) (before : List Effect) → KeepsSong script own before (map (Gradual weight) tags ++ before)
gradual_keeps script own weight [] before = record { style = refl; count = refl; len = refl }
gradual_keeps script own weight (tag ∷ tags) before =
    let rest = gradual_keeps script own weight tags before in
    record { style = rest.style; count = omega (arith, rest.count); len = omega (arith, ints, rest.len) }

-- the pen in another state
pub pen_moves : (script : ScriptValue) (own : List ℕ) (before behind : List Effect) (tags : ℕ) (pen : Pen) (state : State)
    → IsPen script own before tags pen → KeepsSong script own before behind → IsStateAt script own pen.fonts.names behind state → IsPen script own behind (tags + 1) (record pen { state = state })
pen_moves script own before behind tags pen state is keeps at = record {
  fonts = is.fonts;
  few = omega (arith, is.few);
  first = is.first;
  face = (let P : Style → Type 0 = λ z. IsFace pen.fonts.names z pen.face in subst P (sym keeps.style) is.face);
  state = at;
  syllables = omega (arith, is.syllables, keeps.count);
  begun = (let P : ℤ → Type 0 = λ z. pos 0 ≤ℤ z in subst P (sym keeps.len) is.begun);
  sung = (let P : ℤ → Type 0 = λ z. z ≤ℤ pos ((tags + 1) * max_syllable) in subst P (sym keeps.len) (omega (arith, ints, is.sung)));
}

-- behind a syllable
pub pen_sings : (script : ScriptValue) (own : List ℕ) (before : List Effect) (tags : ℕ) (pen : Pen) (kind : Sung) (len : ℤ)
    → pos 0 ≤ℤ len → len ≤ℤ pos max_syllable → IsPen script own before tags pen
    → IsPen script own (Plain (Karaoke kind len) ∷ before) (tags + 1) (record pen { state = record pen.state { sung = Some (syllable_behind pen.state.sung kind len) } })
pen_sings script own before tags pen kind len some short is = record {
  fonts = is.fonts;
  few = omega (arith, is.few);
  first = is.first;
  face = is.face;
  state = sung_state script own pen.fonts.names kind len before pen.state is.state;
  syllables = omega (arith, is.syllables);
  begun = omega (arith, ints, is.begun, some);
  sung = omega (arith, ints, is.sung, short);
}

-- ---- the pen behind a font and a reset

-- the names of fonts grew
pub pen_names : (script : ScriptValue) (own : List ℕ) (before : List Effect) (tags : ℕ) (pen : Pen) (names : List (List ℕ)) → Grow pen.fonts.names names → IsPen script own before tags pen
    → IsFace names (style_for own script) pen.own × IsFace names (style_in_force script own before) pen.face × IsStateAt script own names before pen.state
pen_names script own before tags pen names grown is = (
  face_grows pen.fonts.names names (style_for own script) pen.own grown is.first,
  face_grows pen.fonts.names names (style_in_force script own before) pen.face grown is.face,
  state_grows script own pen.fonts.names names before pen.state grown is.state,
)

-- behind a reset
pub pen_resets : (script : ScriptValue) (own name : List ℕ) (before : List Effect) (tags : ℕ) (pen : Pen) (fonts : Fonts) (face : Face) (state : State) → IsPen script own before tags pen → AreFonts script fonts → Grow pen.fonts.names fonts.names
    → IsFace fonts.names (style_for (reset_name own name) script) face → state ≡ restyled_state pen.state face.style.now face.font
    → IsPen script own (Plain (Reset name) ∷ before) (tags + 1) (record { own = pen.own; face = face; state = state; fonts = fonts })
pen_resets script own name before tags pen fonts face state is are grown to at = record {
  fonts = are;
  few = omega (arith, is.few, grown.few);
  first = face_grows pen.fonts.names fonts.names (style_for own script) pen.own grown is.first;
  face = to;
  state =
      (let P : State → Type 0 = λ z. IsStateAt script own fonts.names (Plain (Reset name) ∷ before) z in
      let Q : Style → Type 0 = λ z. IsStateAt script own fonts.names (Plain (Reset name) ∷ before) (restyled_state pen.state z face.font) in
      subst P (sym at) (subst Q (sym to.of) (reset_state script own fonts.names name before pen.state face.font (state_grows script own pen.fonts.names fonts.names before pen.state grown is.state) to.font)));
  syllables = omega (arith, is.syllables);
  begun = omega (arith, ints, is.begun);
  sung = omega (arith, ints, is.sung);
}

-- a name that is there is the one that a reset means
pub reset_named : (own name : List ℕ) → (length name ≡ 0 → ⊥) → reset_name own name ≡ name
reset_named own [] some = absurd (some refl)
reset_named own (c ∷ name) some = refl

-- behind the tag of a syllable
pub pen_sings_by : (script : ScriptValue) (own : List ℕ) (before : List Effect) (tags : ℕ) (pen : Pen) (duration elapsed : ℤ) (tag : Tag) (kind : Sung) (len : ℤ) (syllable : Syllable)
    → tag ≡ Karaoke kind len → IsHeldTag tag → syllable ≡ syllable_behind pen.state.sung kind len → IsPen script own before tags pen
    → IsPen script own (reverse (effects_of_tag duration elapsed tag) ++ before) (tags + 1) (record pen { state = record pen.state { sung = Some syllable } })
pen_sings_by script own before tags pen duration elapsed tag kind len syllable is held next at =
    let P : Tag → Type 0 = λ z. IsPen script own (reverse (effects_of_tag duration elapsed z) ++ before) (tags + 1) (record pen { state = record pen.state { sung = Some syllable } }) in
    let Q : Syllable → Type 0 = λ z. IsPen script own (Plain (Karaoke kind len) ∷ before) (tags + 1) (record pen { state = record pen.state { sung = Some z } }) in
    let lies : IsHeldTag (Karaoke kind len) = subst IsHeldTag is held in
    subst P (sym is) (subst Q (sym next) (pen_sings script own before tags pen kind len lies.0 lies.1 at))

-- behind a transform
pub pen_transforms : (script : ScriptValue) (own : List ℕ) (before : List Effect) (tags : ℕ) (pen : Pen) (duration elapsed : ℤ) (tag : Tag) (times : Option (ℤ × ℤ)) (quarters : ℕ) (list : List GradualTag) (weight : ℕ) (state : State)
    → tag ≡ Transform times quarters list → weight ≡ transform_weight times duration quarters elapsed → IsPen script own before tags pen
    → IsStateAt script own pen.fonts.names (reverse (map (Gradual weight) list) ++ before) state
    → IsPen script own (reverse (effects_of_tag duration elapsed tag) ++ before) (tags + 1) (record pen { state = state })
pen_transforms script own before tags pen duration elapsed tag times quarters list weight state is heavy at moved =
    let P : Tag → Type 0 = λ z. IsPen script own (reverse (effects_of_tag duration elapsed z) ++ before) (tags + 1) (record pen { state = state }) in
    let Q : ℕ → Type 0 = λ z. IsPen script own (reverse (map (Gradual z) list) ++ before) (tags + 1) (record pen { state = state }) in
    let R : List Effect → Type 0 = λ z. KeepsSong script own before (z ++ before) in
    let keeps : KeepsSong script own before (reverse (map (Gradual weight) list) ++ before) = subst R (map-reverse (Gradual weight) list) (gradual_keeps script own weight (reverse list) before) in
    subst P (sym is) (subst Q heavy (pen_moves script own before (reverse (map (Gradual weight) list) ++ before) tags pen state at keeps moved))
