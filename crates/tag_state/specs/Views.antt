-- Public: what an event shows at an instant (docs/TAGS.md).
use Rattle.std.specs.Prelude.{◌≡◌, ℕ, ◌-◌, ℤ, pos, ◌-ℤ◌, List, [], ◌∷◌, All, Some, length, slice_get, unwrap_or}
use Rattle.ass_script.specs.Scripts.{ScriptValue, style_for}
use Rattle.ass_events.specs.declared.event.Event.{Event}
use Rattle.override_tags.specs.Laws.{IsAtCharacters}
use Rattle.override_tags.specs.Ranges.{IsHeldItem}
use Rattle.override_tags.specs.Readings.{IsTextReading}
use Rattle.override_tags.specs.declared.item.Item.{Item}
use Rattle.override_tags.specs.declared.view.EventView.{EventView}
use Rattle.override_tags.specs.declared.view.Shown.{Shown}
use Rattle.override_tags.specs.declared.view.State.{State}
use Rattle.tag_state.specs.Choices.{first_of, align_said, point_said, origin_said, fade_said, wrap_at, clip_at}
use Rattle.tag_state.specs.Looks.{Look, AreLooks}
use Rattle.tag_state.specs.Setters.{Effect, past_all}
use Rattle.tag_state.specs.States.{IsStateAt}

-- no name stands twice
abbrev pub AreOnce : List (List ℕ) → Type 0
AreOnce names = (i j : ℕ) (name : List ℕ) → slice_get names i ≡ Some name → slice_get names j ≡ Some name → i ≡ j

-- the state of this number stands behind these effects
abbrev pub HasState : ScriptValue → List ℕ → List (List ℕ) → List State → List Effect → ℕ → Type 0
HasState script own names states before place = (state : State) × (slice_get states place ≡ Some state) × IsStateAt script own names before state

-- What is shown as it looks, in its state.
pub record IsSeen (script : ScriptValue) (own : List ℕ) (names : List (List ℕ)) (states : List State) (shown : Shown) (look : Look) : Type 0 where
  pub kind : shown.kind ≡ look.kind
  pub state : HasState script own names states look.before shown.state

-- one after another
abbrev pub AreSeen : ScriptValue → List ℕ → List (List ℕ) → List State → List Shown → List Look → Type 0
AreSeen script own names states [] [] = Unit {0}
AreSeen script own names states (shown ∷ items) (look ∷ looks) = IsSeen script own names states shown look × AreSeen script own names states items looks
AreSeen script own names states _ _ = ⊥

-- how many milliseconds of an event have passed
abbrev pub elapsed_at : Event → ℤ → ℤ
elapsed_at event t = t -ℤ event.start

-- The items were read of the text: they are its items, in range, and it can be cut where they begin and end.
pub record AreReadItems (text : List ℕ) (items : List Item) : Type 0 where
  pub reading : IsTextReading text items
  pub held : All IsHeldItem items
  pub cuts : All (IsAtCharacters text) items

-- What an event shows at an instant, by the items of its text.
pub record IsViewBy (script : ScriptValue) (event : Event) (elapsed : ℤ) (items : List Item) (view : EventView) : Type 0 where
  pub looks : List Look
  pub shows : AreLooks event.text event.duration elapsed [] items looks
  pub seen : AreSeen script event.style view.names view.states view.items looks
  pub last : HasState script event.style view.names view.states (past_all event.duration elapsed [] items) (length view.states - 1)
  pub align : view.align ≡ unwrap_or (first_of align_said items) (style_for event.style script).alignment
  pub wrap : view.wrap ≡ wrap_at script.header.wrap (past_all event.duration elapsed [] items)
  pub position : view.pos ≡ first_of (point_said event.duration elapsed) items
  pub origin : view.org ≡ first_of origin_said items
  pub fade : pos view.fade ≡ unwrap_or (first_of (fade_said event.duration elapsed) items) (pos 0)
  pub clip : view.clip ≡ clip_at script.header (past_all event.duration elapsed [] items)

-- What an event shows at an instant. Each name of a font has one number, so states that look the same are the same
pub record IsViewOf (script : ScriptValue) (event : Event) (t : ℤ) (view : EventView) : Type 0 where
  pub items : List Item
  pub reading : IsTextReading event.text items
  pub shown : IsViewBy script event (elapsed_at event t) items view
  pub once : AreOnce view.names
