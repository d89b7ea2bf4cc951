-- States behind the same effects in two views: they are the same but for the numbers of their fonts.
use Rattle.std.proofs.Common.{◌≡◌, ◌∙◌, refl, sym, ap, ap₂, ℕ, zero, suc, ◌<◌, Bool, true, false, ◌&&◌, nat_eq, List, [], ◌∷◌, length, Some, arith}
use Rattle.std.specs.Cmp.{unsigned_Decides}
use Rattle.std.specs.Prelude.{slice_get}
use Rattle.std.proofs.lemmas.Bool.{false≢true}
use Rattle.std.proofs.lemmas.Option.{same_Some}
use Rattle.ass_num.specs.declared.colour.Rgba.{Rgba}
use Rattle.ass_script.specs.Scripts.{ScriptValue}
use Rattle.override_tags.specs.contracts.view.StatePartialEq.TheImpl as state_eq
use Rattle.override_tags.specs.declared.view.State.{State}
use Rattle.tag_state.specs.Properties.{Channel, Measure, Switch, byte_in, colour_at, font, measure_of, switch_of}
use Rattle.tag_state.specs.Properties as property
use Rattle.tag_state.specs.Setters.{Effect, property_at}
use Rattle.tag_state.specs.States.{IsStateAt}
use Rattle.tag_state.specs.Views.{AreOnce}

-- ---- four colours

colour_parts : (a b : Rgba) → a.r ≡ b.r → a.g ≡ b.g → a.b ≡ b.b → a.a ≡ b.a → a ≡ b
colour_parts a b red green blue opacity = grind arith

same_colours : (xs ys : List Rgba) → length xs ≡ length ys → ((k : ℕ) → k < length xs → colour_at xs k ≡ colour_at ys k) → xs ≡ ys
same_colours [] [] long same = refl
same_colours [] (y ∷ ys) long same = absurd (omega arith)
same_colours (x ∷ xs) [] long same = absurd (omega arith)
same_colours (x ∷ xs) (y ∷ ys) long same =
    let head : x ≡ y = same zero (omega arith) in
    let tail : xs ≡ ys = same_colours xs ys (omega arith) (λ k lt. same (suc k) (omega (arith, lt))) in
    ap₂ (λ (z : Rgba) (zs : List Rgba). z ∷ zs) head tail

-- ---- states

-- The states differ in the numbers of their fonts at most.
abbrev pub AreAlike : State → State → Type 0
AreAlike a b = a ≡ record b { font = a.font }

alike_parts : (a b : State)
    → a.size ≡ b.size → a.colours ≡ b.colours → a.bold ≡ b.bold → a.italic ≡ b.italic → a.underline ≡ b.underline → a.strikeout ≡ b.strikeout → a.scale_x ≡ b.scale_x → a.scale_y ≡ b.scale_y → a.spacing ≡ b.spacing → a.angle ≡ b.angle → a.border_style ≡ b.border_style → a.border_x ≡ b.border_x → a.border_y ≡ b.border_y → a.shadow_x ≡ b.shadow_x → a.shadow_y ≡ b.shadow_y → a.edges ≡ b.edges → a.blur ≡ b.blur → a.draw ≡ b.draw → a.offset ≡ b.offset → a.sung ≡ b.sung → AreAlike a b
alike_parts a b size_is colours_is bold_is italic_is underline_is strikeout_is scale_x_is scale_y_is spacing_is angle_is border_style_is border_x_is border_y_is shadow_x_is shadow_y_is edges_is blur_is draw_is offset_is sung_is = grind arith

module _ (script : ScriptValue) (own : List ℕ) (before : List Effect) (ns ms : List (List ℕ)) (a b : State) where
  pub states_alike : IsStateAt script own ns before a → IsStateAt script own ms before b → length a.colours ≡ 4 → length b.colours ≡ 4 → AreAlike a b
  states_alike h k four four_too =
      let measure : (m : Measure) → measure_of m a ≡ measure_of m b = λ m. h.numbers m ∙ sym (k.numbers m) in
      let switch : (s : Switch) → switch_of s a ≡ switch_of s b = λ s. h.switches s ∙ sym (k.switches s) in
      let byte : (c : Channel) (place : ℕ) → place < 4 → byte_in c (colour_at a.colours place) ≡ byte_in c (colour_at b.colours place) = λ c place lt. h.colours c place lt ∙ sym (k.colours c place lt) in
      let colours : a.colours ≡ b.colours =
      same_colours a.colours b.colours (four ∙ sym four_too)
      (λ place within. let lt : place < 4 = omega (arith, within, four) in
      colour_parts (colour_at a.colours place) (colour_at b.colours place) (byte property.Red place lt) (byte property.Green place lt) (byte property.Blue place lt) (byte property.Opacity place lt)) in
      alike_parts a b (measure property.Size) colours (switch property.Bold) (switch property.Italic) (switch property.Underline) (switch property.Strikeout)
      (measure property.ScaleX) (measure property.ScaleY) (measure property.Spacing) (measure property.Angle) (h.border_style ∙ sym k.border_style)
      (measure property.BorderX) (measure property.BorderY) (measure property.ShadowX) (measure property.ShadowY) (measure property.Edges) (measure property.Blur)
      (h.draw ∙ sym k.draw) (measure property.Offset) (h.sung ∙ sym k.sung)

-- ---- equal states

same_tests : (x y z w : ℕ) → (x ≡ y → z ≡ w) → (z ≡ w → x ≡ y) → nat_eq x y ≡ nat_eq z w
same_tests x y z w there back = by (nat_eq x y) (nat_eq z w) refl refl
  where
    by : (b c : Bool) → nat_eq x y ≡ b → nat_eq z w ≡ c → b ≡ c
    by true true p q = refl
    by false false p q = refl
    by true false p q = absurd (false≢true (sym q ∙ (unsigned_Decides z w).1 (there ((unsigned_Decides x y).0 p))))
    by false true p q = absurd (false≢true (sym p ∙ (unsigned_Decides x y).1 (back ((unsigned_Decides z w).0 q))))

and_first : (s t r : Bool) → s ≡ t → (s && r) ≡ (t && r)
and_first s t r e = ap (λ (z : Bool). z && r) e

-- Two states are equal where the states that they are alike to are, if their fonts are.
pub alike_equal : (a b c d : State) → AreAlike a c → AreAlike b d → nat_eq a.font b.font ≡ nat_eq c.font d.font → state_eq.ghosts.eq a b ≡ state_eq.ghosts.eq c d
alike_equal a b c d h k fonts =
    let there : state_eq.ghosts.eq (record c { font = a.font }) (record d { font = b.font }) ≡ state_eq.ghosts.eq c d = and_first (nat_eq a.font b.font) (nat_eq c.font d.font) _ fonts in
    ap (λ (z : State). state_eq.ghosts.eq z b) h ∙ (ap (λ (z : State). state_eq.ghosts.eq (record c { font = a.font }) z) k ∙ there)

module _ (script : ScriptValue) (own : List ℕ) (p q : List Effect) where
  -- states with the same font in one view have the same font in another
  font_there : (ns ms : List (List ℕ)) (a b c d : State) → AreOnce ms → IsStateAt script own ns p a → IsStateAt script own ns q b → IsStateAt script own ms p c → IsStateAt script own ms q d
      → a.font ≡ b.font → c.font ≡ d.font
  font_there ns ms a b c d once ha hb hc hd same =
      let name : property_at font script own q ≡ property_at font script own p = same_Some _ _ (sym hb.font ∙ (ap (slice_get ns) (sym same) ∙ ha.font)) in
      once c.font d.font (property_at font script own p) hc.font (hd.font ∙ ap Some name)

  pub same_fonts : (ns ms : List (List ℕ)) (a b c d : State) → AreOnce ns → AreOnce ms → IsStateAt script own ns p a → IsStateAt script own ns q b → IsStateAt script own ms p c → IsStateAt script own ms q d
      → nat_eq a.font b.font ≡ nat_eq c.font d.font
  same_fonts ns ms a b c d once once_too ha hb hc hd =
      same_tests a.font b.font c.font d.font (font_there ns ms a b c d once_too ha hb hc hd) (font_there ms ns c d a b once hc hd ha hb)
