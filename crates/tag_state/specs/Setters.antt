-- Public: how the tags before a character decide a property of it (docs/TAGS.md).
use Rattle.std.specs.Prelude.{ℕ, ℤ, Bool, true, false, if◌then◌else◌, List, [], ◌∷◌, ◌++◌, map, reverse, Option, unwrap_or}
use Rattle.std.specs.List.{filter_map}
use Rattle.ass_script.specs.Scripts.{ScriptValue, style_for}
use Rattle.ass_script.specs.declared.style.Style.{Style}
use Rattle.event_instants.specs.Instants.{transform_weight}
use Rattle.override_tags.specs.declared.item.Item.{Item}
use Rattle.override_tags.specs.declared.item.ItemKind.{ItemKind}
use Rattle.override_tags.specs.declared.item.ItemKind.TheVariants as item
use Rattle.override_tags.specs.declared.tag.GradualTag.{GradualTag}
use Rattle.override_tags.specs.declared.tag.Tag.{Tag}
use Rattle.override_tags.specs.declared.tag.Tag.TheVariants.{Reset, Transform}

-- A tag of a block, or a tag of a transform with the weight that the transform has, in 65,536ths.
pub data Effect : Type 0 where
  Plain : Tag → Effect
  Gradual : ℕ → GradualTag → Effect

-- What sets a property to a value, or moves it there by a weight. No value stands for the one of the style in force.
pub data Setter (V : Type 0) : Type 0 where
  Sets : Option V → Setter V
  Moves : ℕ → Option V → Setter V

-- A property: what a style says of it, what an effect does to it, whether `\r` sets it anew, and how a weight moves it from a value to another.
pub record Property (V : Type 0) : Type 0 where
  pub styled : Style → V
  pub setter : Effect → Option (Setter V)
  pub resets : Bool
  pub moved : V → V → ℕ → V

-- ---- the effects before a character; the last one stands first

abbrev pub effects_of_tag : ℤ → ℤ → Tag → List Effect
effects_of_tag duration elapsed (Transform times quarters tags) = map (Gradual (transform_weight times duration quarters elapsed)) tags
effects_of_tag duration elapsed tag = Plain tag ∷ []

-- the effects of an item of a text in an event of a duration, in order
abbrev pub effects_of : ℤ → ℤ → ItemKind → List Effect
effects_of duration elapsed (item.Tag tag) = effects_of_tag duration elapsed tag
effects_of duration elapsed _ = []

-- the effects before what follows an item
abbrev pub past : ℤ → ℤ → List Effect → Item → List Effect
past duration elapsed before i = reverse (effects_of duration elapsed i.kind) ++ before

-- and before what follows some items
abbrev pub past_all : ℤ → ℤ → List Effect → List Item → List Effect
past_all duration elapsed before [] = before
past_all duration elapsed before (i ∷ items) = past_all duration elapsed (past duration elapsed before i) items

abbrev pub is_reset : Effect → Bool
is_reset (Plain (Reset _)) = true
is_reset _ = false

-- the effects that stand behind the last `\r`
abbrev pub since_reset : List Effect → List Effect
since_reset [] = []
since_reset (effect ∷ earlier) = if is_reset effect then [] else effect ∷ since_reset earlier

-- ---- the style in force

-- the name that a reset means: without a name it is the event's own style
abbrev pub reset_name : List ℕ → List ℕ → List ℕ
reset_name own [] = own
reset_name own name = name

-- the style behind an effect
abbrev pub restyled : ScriptValue → List ℕ → Effect → Style → Style
restyled script own (Plain (Reset name)) style = style_for (reset_name own name) script
restyled script own _ style = style

-- The style in force: that of the last `\r`, or else the event's own one.
abbrev pub style_in_force : ScriptValue → List ℕ → List Effect → Style
style_in_force script own [] = style_for own script
style_in_force script own (effect ∷ earlier) = restyled script own effect (style_in_force script own earlier)

-- ---- the value of a property

-- The last setter decides. Without one it is what the style says.
abbrev pub by_setters : {V : Type 0} → (V → V → ℕ → V) → V → List (Setter V) → V
by_setters moved styled [] = styled
by_setters moved styled (Sets new ∷ earlier) = unwrap_or new styled
by_setters moved styled (Moves weight new ∷ earlier) = moved (by_setters moved styled earlier) (unwrap_or new styled) weight

-- the setters of a property among the effects before a character
abbrev pub setters_in : {V : Type 0} → Property V → List Effect → List (Setter V)
setters_in p before = filter_map p.setter (if p.resets then since_reset before else before)

-- the value of a property of a character behind these effects, in an event of a style
abbrev pub property_at : {V : Type 0} → Property V → ScriptValue → List ℕ → List Effect → V
property_at p script own before = by_setters p.moved (p.styled (style_in_force script own before)) (setters_in p before)

-- what never moves gradually
abbrev pub replaced : {V : Type 0} → V → V → ℕ → V
replaced old new weight = new
