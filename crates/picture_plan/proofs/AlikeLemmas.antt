-- Views that are laid out alike, and what is shown and is equal by `==`.
use Rattle.std.proofs.Common.{◌≡◌, refl, subst, ℕ, Bool, true, List, nat_eq, bytes_eq, arith}
use Rattle.std.specs.Cmp.{unsigned_Decides}
use Rattle.std.specs.Cmp.Lexicographic.{pointwise}
use Rattle.std.proofs.lemmas.Slice.Eq.{bytes_eq-Decides}
use Rattle.ass_num.specs.declared.geometry.Path.{Path}
use Rattle.ass_num.specs.contracts.geometry.PathPartialEq.TheImpl as path
use Rattle.ass_num.specs.contracts.geometry.SegPartialEq.TheImpl as seg
use Rattle.frame_view.specs.FrameScales.{scales_of}
use Rattle.frame_view.specs.declared.scales.Scales.{Scales}
use Rattle.frame_view.specs.declared.view.FrameView.{FrameView}
use Rattle.ass_events.specs.declared.event.Event.{Event}
use Rattle.ass_script.specs.Scripts.{ScriptValue}
use Rattle.bdf_font.specs.Fonts.{FontValue}
use Rattle.mask_keys.proofs.Equal.{items_same, seg_same}
use Rattle.override_tags.specs.declared.view.EventView.{EventView}
use Rattle.override_tags.specs.declared.view.Shown.{Shown}
use Rattle.override_tags.specs.declared.view.ShownKind.{ShownKind}
use Rattle.override_tags.specs.declared.view.ShownKind.TheVariants as shown
use Rattle.override_tags.specs.declared.view.State.{State}
use Rattle.override_tags.specs.contracts.view.ShownPartialEq.TheImpl as item
use Rattle.override_tags.specs.contracts.view.ShownKindPartialEq.TheImpl as kind
use Rattle.override_tags.specs.contracts.view.StatePartialEq.TheImpl as state
use Rattle.tag_state.proofs.StateEquality.{state_same}
use Rattle.text_layout.specs.Layouts.{IsLaid, IsLaidBy}
use Rattle.text_layout.specs.LineScales.{line_scales}
use Rattle.text_layout.specs.declared.laid.Laid.{Laid}
use Rattle.picture_plan.specs.Alike.{AreLaidAlike}
use Rattle.std.proofs.lemmas.Bool.{and_parts}

-- ---- what `==` says

path_same : (a b : Path) → path.ghosts.eq a b ≡ true → a ≡ b
path_same a b e = grind (arith, items_same seg.ghosts.eq seg_same a.segs b.segs e)

kind_same : (a b : ShownKind) → kind.ghosts.eq a b ≡ true → a ≡ b
kind_same (shown.Char c) (shown.Char d) e = grind (arith, (unsigned_Decides c d).0 e)
kind_same (shown.Drawing p) (shown.Drawing q) e = grind (arith, path_same p q e)
kind_same shown.Hard shown.Hard e = refl
kind_same shown.Soft shown.Soft e = refl
kind_same a b e = grind arith

item_same : (a b : Shown) → item.ghosts.eq a b ≡ true → a ≡ b
item_same a b e =
    let parts = and_parts (kind.ghosts.eq a.kind b.kind) (nat_eq a.state b.state) e in
    grind (arith, kind_same a.kind b.kind parts.0, (unsigned_Decides a.state b.state).0 parts.1)

pub all_items_same : (xs ys : List Shown) → pointwise item.ghosts.eq xs ys ≡ true → xs ≡ ys
all_items_same xs ys e = items_same item.ghosts.eq item_same xs ys e

pub all_states_same : (xs ys : List State) → pointwise state.ghosts.eq xs ys ≡ true → xs ≡ ys
all_states_same xs ys e = items_same state.ghosts.eq state_same xs ys e

name_same : (a b : List ℕ) → bytes_eq a b ≡ true → a ≡ b
name_same a b e = (bytes_eq-Decides a b).0 e

pub all_names_same : (xs ys : List (List ℕ)) → pointwise bytes_eq xs ys ≡ true → xs ≡ ys
all_names_same xs ys e = items_same bytes_eq name_same xs ys e

-- ---- layout

-- What is laid out so by some scales is laid out so in every view that is laid out alike.
laid_by_alike : (script : ScriptValue) (fonts : List FontValue) (event : Event) (a b : EventView) (scales : Scales) (laid : Laid) → AreLaidAlike a b
    → IsLaidBy script fonts event a scales laid → IsLaidBy script fonts event b scales laid
laid_by_alike script fonts event a b scales laid alike h =
    subst (λ (names : List (List ℕ)). IsLaidBy script fonts event (record b { names = names }) scales laid) alike.names
    (subst (λ (states : List State). IsLaidBy script fonts event (record b { names = a.names; states = states }) scales laid) alike.states
    (subst (λ (items : List Shown). IsLaidBy script fonts event (record b { names = a.names; states = a.states; items = items }) scales laid) alike.items
    (subst (λ (align : ℕ). IsLaidBy script fonts event (record b { names = a.names; states = a.states; items = a.items; align = align }) scales laid) alike.align
    (subst (λ (wrap : ℕ). IsLaidBy script fonts event (record b { names = a.names; states = a.states; items = a.items; align = a.align; wrap = wrap }) scales laid) alike.wrap
    h))))

-- What is laid out so is, since both are typeset or neither.
pub laid_alike : (script : ScriptValue) (fonts : List FontValue) (event : Event) (a b : EventView) (frame : FrameView) (laid : Laid) → AreLaidAlike a b
    → IsLaid script fonts event a frame laid → IsLaid script fonts event b frame laid
laid_alike script fonts event a b frame laid alike h =
    subst (λ (typeset : Bool). IsLaidBy script fonts event b (scales_of script.header frame typeset) laid) alike.typeset
    (laid_by_alike script fonts event a b (line_scales script.header frame a) laid alike h)
