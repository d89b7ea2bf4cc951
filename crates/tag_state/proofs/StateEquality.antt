-- States are equal by `==` only where they are one.
use Rattle.std.proofs.Common.{arith, ◌≡◌, ℕ, ◌-◌, ◌<◌, refl, sym, ap, ◌∙◌, subst, All, true, List, [], ◌∷◌, ◌++◌, length, get_or, Option, Some, None, nat_eq, length-append}
use Rattle.std.specs.Prelude.{slice_get}
use Rattle.std.proofs.lemmas.List.Elements.{All-nil, All-cons, All-append}
use Rattle.override_tags.specs.Views.{IsState}
use Rattle.std.proofs.lemmas.Option.{slice_get_within, slice_get-get_or}
use Rattle.std.specs.Bool.{beq}
use Rattle.std.specs.Ordering.{int_eq}
use Rattle.std.specs.Option.{option_eq}
use Rattle.std.specs.Cmp.{unsigned_Decides, signed_Decides, booleans_Decides}
use Rattle.std.specs.Cmp.Lexicographic.{pointwise}
use Rattle.ass_num.specs.declared.colour.Rgba.{Rgba}
use Rattle.ass_num.specs.contracts.colour.RgbaPartialEq.TheImpl as rgba
use Rattle.tag_arguments.specs.declared.kinds.Sung.{Sung}
use Rattle.tag_arguments.specs.declared.kinds.Sung.TheVariants.{Jump, Sweep, Outline}
use Rattle.tag_arguments.specs.contracts.kinds.SungPartialEq.TheImpl as kind
use Rattle.override_tags.specs.declared.view.State.{State}
use Rattle.override_tags.specs.declared.view.Syllable.{Syllable}
use Rattle.override_tags.specs.contracts.view.StatePartialEq.TheImpl as state
use Rattle.override_tags.specs.contracts.view.SyllablePartialEq.TheImpl as syllable
use Rattle.tag_state.specs.Walks.{IsLast, IsStored}
use Rattle.tag_state.proofs.FontLemmas.{get_end}
use Rattle.std.proofs.lemmas.Bool.{and_parts}

rgba_same : (a b : Rgba) → rgba.ghosts.eq a b ≡ true → a ≡ b
rgba_same a b e = grind (arith, unsigned_Decides a.r b.r, unsigned_Decides a.g b.g, unsigned_Decides a.b b.b, unsigned_Decides a.a b.a)

colours_same : (xs ys : List Rgba) → pointwise rgba.ghosts.eq xs ys ≡ true → xs ≡ ys
colours_same [] [] e = refl
colours_same [] (y ∷ ys) e = cc
colours_same (x ∷ xs) [] e = cc
colours_same (x ∷ xs) (y ∷ ys) e =
    let parts = and_parts (rgba.ghosts.eq x y) (pointwise rgba.ghosts.eq xs ys) e in
    let head = rgba_same x y parts.0 in
    let tail = colours_same xs ys parts.1 in
    cc

kind_same : (a b : Sung) → kind.ghosts.eq a b ≡ true → a ≡ b
kind_same Jump Jump e = refl
kind_same Sweep Sweep e = refl
kind_same Outline Outline e = refl
kind_same a b e = cc

syllable_same : (a b : Syllable) → syllable.ghosts.eq a b ≡ true → a ≡ b
syllable_same a b e =
    let first = and_parts (kind.ghosts.eq a.kind b.kind) _ e in
    let second = and_parts (int_eq a.begin b.begin) _ first.1 in
    let third = and_parts (int_eq a.end b.end) _ second.1 in
    grind (arith, kind_same a.kind b.kind first.0, (signed_Decides a.begin b.begin).0 second.0, (signed_Decides a.end b.end).0 third.0, (unsigned_Decides a.index b.index).0 third.1)

sung_same : (a b : Option Syllable) → option_eq syllable.ghosts.eq a b ≡ true → a ≡ b
sung_same None None e = refl
sung_same None (Some y) e = cc
sung_same (Some x) None e = cc
sung_same (Some x) (Some y) e = ap Some (syllable_same x y e)

state_parts : (a b : State)
    → a.font ≡ b.font → a.size ≡ b.size → a.colours ≡ b.colours → a.bold ≡ b.bold → a.italic ≡ b.italic → a.underline ≡ b.underline → a.strikeout ≡ b.strikeout → a.scale_x ≡ b.scale_x → a.scale_y ≡ b.scale_y → a.spacing ≡ b.spacing → a.angle ≡ b.angle → a.border_style ≡ b.border_style → a.border_x ≡ b.border_x → a.border_y ≡ b.border_y → a.shadow_x ≡ b.shadow_x → a.shadow_y ≡ b.shadow_y → a.edges ≡ b.edges → a.blur ≡ b.blur → a.draw ≡ b.draw → a.offset ≡ b.offset → a.sung ≡ b.sung → a ≡ b
state_parts a b font_is size_is colours_is bold_is italic_is underline_is strikeout_is scale_x_is scale_y_is spacing_is angle_is border_style_is border_x_is border_y_is shadow_x_is shadow_y_is edges_is blur_is draw_is offset_is sung_is = grind arith

pub state_same : (a b : State) → state.ghosts.eq a b ≡ true → a ≡ b
state_same a b e =
    let p0 = and_parts (nat_eq a.font b.font) _ e in
    let p1 = and_parts (int_eq a.size b.size) _ p0.1 in
    let p2 = and_parts (pointwise rgba.ghosts.eq a.colours b.colours) _ p1.1 in
    let p3 = and_parts (beq a.bold b.bold) _ p2.1 in
    let p4 = and_parts (beq a.italic b.italic) _ p3.1 in
    let p5 = and_parts (beq a.underline b.underline) _ p4.1 in
    let p6 = and_parts (beq a.strikeout b.strikeout) _ p5.1 in
    let p7 = and_parts (int_eq a.scale_x b.scale_x) _ p6.1 in
    let p8 = and_parts (int_eq a.scale_y b.scale_y) _ p7.1 in
    let p9 = and_parts (int_eq a.spacing b.spacing) _ p8.1 in
    let p10 = and_parts (int_eq a.angle b.angle) _ p9.1 in
    let p11 = and_parts (nat_eq a.border_style b.border_style) _ p10.1 in
    let p12 = and_parts (int_eq a.border_x b.border_x) _ p11.1 in
    let p13 = and_parts (int_eq a.border_y b.border_y) _ p12.1 in
    let p14 = and_parts (int_eq a.shadow_x b.shadow_x) _ p13.1 in
    let p15 = and_parts (int_eq a.shadow_y b.shadow_y) _ p14.1 in
    let p16 = and_parts (int_eq a.edges b.edges) _ p15.1 in
    let p17 = and_parts (int_eq a.blur b.blur) _ p16.1 in
    let p18 = and_parts (nat_eq a.draw b.draw) _ p17.1 in
    let p19 = and_parts (int_eq a.offset b.offset) _ p18.1 in
    state_parts a b ((unsigned_Decides a.font b.font).0 p0.0) ((signed_Decides a.size b.size).0 p1.0) (colours_same a.colours b.colours p2.0) ((booleans_Decides a.bold b.bold).0 p3.0) ((booleans_Decides a.italic b.italic).0 p4.0) ((booleans_Decides a.underline b.underline).0 p5.0) ((booleans_Decides a.strikeout b.strikeout).0 p6.0) ((signed_Decides a.scale_x b.scale_x).0 p7.0) ((signed_Decides a.scale_y b.scale_y).0 p8.0) ((signed_Decides a.spacing b.spacing).0 p9.0) ((signed_Decides a.angle b.angle).0 p10.0) ((unsigned_Decides a.border_style b.border_style).0 p11.0) ((signed_Decides a.border_x b.border_x).0 p12.0) ((signed_Decides a.border_y b.border_y).0 p13.0) ((signed_Decides a.shadow_x b.shadow_x).0 p14.0) ((signed_Decides a.shadow_y b.shadow_y).0 p15.0) ((signed_Decides a.edges b.edges).0 p16.0) ((signed_Decides a.blur b.blur).0 p17.0) ((unsigned_Decides a.draw b.draw).0 p18.0) ((signed_Decides a.offset b.offset).0 p19.0) (sung_same a.sung b.sung p19.1)

-- ---- stored states

-- a state that is equal to one that is stored
pub stored_same : (states : List State) (d wanted : State) (number : ℕ) → number < length states → state.ghosts.eq (get_or states number d) wanted ≡ true → IsStored states wanted number
stored_same states d wanted number within equal = slice_get-get_or states number d within ∙ ap Some (state_same (get_or states number d) wanted equal)

-- the last state is that of the number before the end
pub last_same : (states : List State) (last wanted : State) → Some last ≡ slice_get states (length states - 1) → state.ghosts.eq last wanted ≡ true → IsLast states wanted (length states - 1)
last_same states last wanted found equal =
    let within : length states - 1 < length states = slice_get_within states (length states - 1) last (sym found) in
    record { place = omega arith; there = sym found ∙ ap Some (state_same last wanted equal) }

-- a state that was stored
pub last_stored : (states kept : List State) (wanted : State) (number : ℕ) → states ≡ kept ++ wanted ∷ [] → number ≡ length kept → IsLast states wanted number
last_stored states kept wanted number more is = record {
  place = omega (arith, ap length more, length-append kept (wanted ∷ []));
  there = ap (λ z. slice_get z number) more ∙ (ap (slice_get (kept ++ wanted ∷ [])) is ∙ get_end kept wanted);
}

-- states that are in range, and one more
pub stored_held : (names : ℕ) (states kept : List State) (wanted : State) → states ≡ kept ++ wanted ∷ [] → IsState names wanted → All (IsState names) kept → All (IsState names) states
stored_held names states kept wanted more is all =
    let P : List State → Type 0 = λ z. All (IsState names) z in
    subst P (sym more) (All-append (IsState names) kept (wanted ∷ []) all (All-cons (IsState names) wanted [] is (All-nil (IsState names))))
