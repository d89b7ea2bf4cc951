-- Public: the events that matter at an instant, each with how far it is moved to stand clear of the others.
-- (Advanced SubStation Alpha, "Layer": within a layer, events don't overlap each other.)
use Rattle.std.specs.Prelude.{◌≡◌, ◌≢◌, ◌↔◌, ℕ, List, Contains, All, IfSome, Some, length, map, slice_get, ℤ}
use Rattle.ass_num.specs.Limits.{IsWithin}
use Rattle.frame_view.specs.declared.view.FrameView.{FrameView}
use Rattle.ass_events.specs.Histories.{Pairwise}
use Rattle.ass_events.specs.NearEvents.{IsNear, span_of}
use Rattle.ass_events.specs.declared.event.Event.{Event}
use Rattle.ass_script.specs.Scripts.{ScriptValue}
use Rattle.bdf_font.specs.Fonts.{FontValue}
use Rattle.override_tags.specs.Views.{IsView}
use Rattle.tag_state.specs.Views.{AreReadItems, IsViewOf}
use Rattle.text_layout.specs.Layouts.{IsLaid, IsWithinBlock}
use Rattle.event_places.specs.Limits.{max_shift}
use Rattle.event_places.specs.Shifts.{IsMovedBy}
use Rattle.event_places.specs.declared.own.OwnLayout.{OwnLayout}
use Rattle.event_places.specs.declared.placed.PlacedEvent.{PlacedEvent}

-- The event looks so at its own start, laid out.
pub record IsOwnLayout (script : ScriptValue) (fonts : List FontValue) (frame : FrameView) (event : Event) (own : OwnLayout) : Type 0 where
  pub shows : IsViewOf script event event.start own.view
  pub laid_out : IsLaid script fonts event own.view frame own.laid
  pub within : IsWithinBlock (length own.view.items) own.laid
  pub range : IsView own.view

-- The event at its place among the events is moved so far among all of them; its own layout is right where there is one, and so is
-- what was read of its text.
pub record IsPlacedEvent (script : ScriptValue) (fonts : List FontValue) (frame : FrameView) (events : List Event) (placed : PlacedEvent) : Type 0 where
  pub event : Event
  pub stands : slice_get events placed.place ≡ Some event
  pub moved : IsMovedBy script fonts frame events event placed.down
  pub near : IsWithin max_shift placed.down
  pub own : IfSome placed.own (IsOwnLayout script fonts frame event)
  pub read : IfSome placed.read (AreReadItems event.text)

-- The event at this place matters at t.
pub record IsNearPlace (events : List Event) (t : ℤ) (place : ℕ) : Type 0 where
  pub event : Event
  pub stands : slice_get events place ≡ Some event
  pub matters : IsNear span_of events t event

-- where placed events have their events
abbrev pub placed_places : List PlacedEvent → List ℕ
placed_places placed = map (λ (one : PlacedEvent). one.place) placed

-- These are the events that matter at t, each once, and moved.
pub record ArePlacedEvents (script : ScriptValue) (fonts : List FontValue) (frame : FrameView) (events : List Event) (t : ℤ) (placed : List PlacedEvent) : Type 0 where
  pub each : All (IsPlacedEvent script fonts frame events) placed
  pub members : (place : ℕ) → Contains (placed_places placed) place ↔ IsNearPlace events t place
  pub once : Pairwise (λ a b. a ≢ b) (placed_places placed)
