-- What the items of a layout show in two views of an event, and in which states.
use Rattle.std.proofs.Common.{◌≡◌, ◌∙◌, sym, ap, subst, ℕ, zero, suc, ◌<◌, Bool, ◌&&◌, not, List, [], ◌∷◌, length, arith}
use Rattle.std.specs.Prelude.{slice_index_or}
use Rattle.std.proofs.lemmas.Option.{get_or_from_slice_get, slice_get_within}
use Rattle.ass_script.specs.Scripts.{ScriptValue}
use Rattle.bdf_font.specs.Fonts.{FontValue}
use Rattle.override_tags.specs.declared.view.EventView.{EventView}
use Rattle.override_tags.specs.declared.view.Shown.{Shown}
use Rattle.override_tags.specs.declared.view.ShownKind.{ShownKind}
use Rattle.override_tags.specs.declared.view.State.{State}
use Rattle.tag_state.specs.Looks.{Look}
use Rattle.tag_state.specs.Setters.{Effect}
use Rattle.tag_state.specs.States.{IsStateAt}
use Rattle.tag_state.specs.Views.{AreOnce, AreSeen, HasState, IsSeen}
use Rattle.text_layout.specs.Fonts.{font_of_state}
use Rattle.text_layout.specs.declared.laid.Placed.{Placed}
use Rattle.event_places.proofs.OneStand.{same_font}
use Rattle.event_draws.specs.Items.{no_shown, no_state, shown_of, state_of}
use Rattle.event_draws.specs.MovedDraws.{HaveFourColours}
use Rattle.event_draws.specs.Runs.{are_joined, equal_states, is_drawing}
use Rattle.picture_laws.proofs.States.{AreAlike, alike_equal, same_fonts, states_alike}

-- Two views show the same looks, each in states of four colours, and with no name twice.
pub record ShowAlike (script : ScriptValue) (own : List ℕ) (v w : EventView) : Type 0 where
  pub looks : List Look
  pub seen : AreSeen script own v.names v.states v.items looks
  pub seen_too : AreSeen script own w.names w.states w.items looks
  pub once : AreOnce v.names
  pub once_too : AreOnce w.names
  pub colours : HaveFourColours v.states
  pub colours_too : HaveFourColours w.states
  pub wrap : v.wrap ≡ w.wrap

-- An item shows the same in both views, in states behind the same effects.
pub record IsSameItem (script : ScriptValue) (own : List ℕ) (v w : EventView) (placed : Placed) : Type 0 where
  pub before : List Effect
  pub kind : (shown_of v placed).kind ≡ (shown_of w placed).kind
  pub state : IsStateAt script own v.names before (state_of v placed)
  pub state_too : IsStateAt script own w.names before (state_of w placed)
  pub alike : AreAlike (state_of v placed) (state_of w placed)

module _ (script : ScriptValue) (own : List ℕ) where
  stands_behind : (names : List (List ℕ)) (states : List State) (before : List Effect) (number : ℕ) → HasState script own names states before number
      → IsStateAt script own names before (slice_index_or states number no_state)
  stands_behind names states before number h =
      subst (λ (z : State). IsStateAt script own names before z) (sym (get_or_from_slice_get states number h.0 no_state h.1)) h.2

  four_of : (names : List (List ℕ)) (states : List State) (before : List Effect) (number : ℕ) → HaveFourColours states → HasState script own names states before number
      → length (slice_index_or states number no_state).colours ≡ 4
  four_of names states before number colours h = colours number no_state (slice_get_within states number h.0 h.1)

  module _ (ns ms : List (List ℕ)) (ss rs : List State) where
    seen_at : (xs ys : List Shown) (looks : List Look) (place : ℕ) → place < length xs → AreSeen script own ns ss xs looks → AreSeen script own ms rs ys looks
        → (look : Look) × IsSeen script own ns ss (slice_index_or xs place no_shown) look × IsSeen script own ms rs (slice_index_or ys place no_shown) look
    seen_at [] ys looks place within h k = absurd (omega (arith, within))
    seen_at (x ∷ xs) [] [] place within h k = absurd h
    seen_at (x ∷ xs) [] (look ∷ looks) place within h k = absurd k
    seen_at (x ∷ xs) (y ∷ ys) [] place within h k = absurd h
    seen_at (x ∷ xs) (y ∷ ys) (look ∷ looks) zero within h k = (look, h.0, k.0)
    seen_at (x ∷ xs) (y ∷ ys) (look ∷ looks) (suc place) within h k = seen_at xs ys looks place (omega (arith, within)) h.1 k.1

  module _ (v w : EventView) (alike : ShowAlike script own v w) where
    pub same_item : (placed : Placed) → placed.item < length v.items → IsSameItem script own v w placed
    same_item placed within =
        let at = seen_at v.names w.names v.states w.states v.items w.items alike.looks placed.item within alike.seen alike.seen_too in
        let before = (at.0).before in
        let first = stands_behind v.names v.states before (shown_of v placed).state (at.1).state in
        let second = stands_behind w.names w.states before (shown_of w placed).state (at.2).state in
        record {
          before = before;
          kind = (at.1).kind ∙ sym (at.2).kind;
          state = first;
          state_too = second;
          alike =
              states_alike script own before v.names w.names (state_of v placed) (state_of w placed) first second
              (four_of v.names v.states before (shown_of v placed).state alike.colours (at.1).state)
              (four_of w.names w.states before (shown_of w placed).state alike.colours_too (at.2).state);
        }

    pub same_number : (fonts : List FontValue) (placed : Placed) → placed.item < length v.items
        → font_of_state fonts v.names (state_of v placed) ≡ font_of_state fonts w.names (state_of w placed)
    same_number fonts placed within =
        let same = same_item placed within in
        same_font script own fonts v.names w.names same.before (state_of v placed) (state_of w placed) same.state same.state_too

    pub same_joined : (p q : Placed) → p.item < length v.items → q.item < length v.items → are_joined v p q ≡ are_joined w p q
    same_joined p q within within_too =
        let a = same_item p within in
        let b = same_item q within_too in
        let fonts =
        same_fonts script own a.before b.before v.names w.names (state_of v p) (state_of v q) (state_of w p) (state_of w q) alike.once alike.once_too a.state b.state a.state_too b.state_too
        in
        let equal : equal_states (state_of v p) (state_of v q) ≡ equal_states (state_of w p) (state_of w q) =
        alike_equal (state_of v p) (state_of v q) (state_of w p) (state_of w q) a.alike b.alike fonts
        in
        ap (λ (z : Bool). z && (not (is_drawing (shown_of v p).kind) && not (is_drawing (shown_of v q).kind))) equal
        ∙ (ap (λ (z : ShownKind). equal_states (state_of w p) (state_of w q) && (not (is_drawing z) && not (is_drawing (shown_of v q).kind))) a.kind
        ∙ ap (λ (z : ShownKind). equal_states (state_of w p) (state_of w q) && (not (is_drawing (shown_of w p).kind) && not (is_drawing z))) b.kind)
