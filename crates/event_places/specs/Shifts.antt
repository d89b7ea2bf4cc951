-- Public: how far events are moved to stand clear of one another. Nothing depends on the order of the list of events.
-- (Advanced SubStation Alpha, "Layer": within a layer, events don't overlap each other.)
use Rattle.std.specs.Prelude.{◌≡◌, ◌↔◌, List, Contains, Option, Some, None, ℤ, pos, ◌<ℤ◌}
use Rattle.frame_view.specs.declared.view.FrameView.{FrameView}
use Rattle.ass_events.specs.NearEvents.{ComesBefore, span_of}
use Rattle.ass_events.specs.declared.event.Event.{Event}
use Rattle.ass_script.specs.Scripts.{ScriptValue}
use Rattle.bdf_font.specs.Fonts.{FontValue}
use Rattle.event_places.specs.Placement.{IsLeastShift, moved_box}
use Rattle.event_places.specs.declared.stands.Box2.{Box2}
use Rattle.event_places.specs.declared.stands.Stand.{Stand}
use Rattle.event_places.specs.Stands.{HasPoint, IsStandOf, down_by}

-- Of the events, e has to stand clear of f: f comes before it, and ends after its start.
pub record IsRival (events : List Event) (e f : Event) : Type 0 where
  pub listed : Contains events f
  pub before : ComesBefore (span_of f) (span_of e)
  pub lasts : e.start <ℤ (span_of f).end

-- The box is where a rival stands once it is moved. The places of events are their stands, with their shifts.
pub record IsRivalBox (events : List Event) (place_of : Event → Option (Stand × ℤ)) (e : Event) (box : Box2) : Type 0 where
  pub rival : Event
  pub is_rival : IsRival events e rival
  pub stand : Stand
  pub shift : ℤ
  pub stands : place_of rival ≡ Some (stand, shift)
  pub moved : box ≡ moved_box stand.down shift stand.place

-- The stand of an event among the events, and its shift: the least that keeps its box clear of the boxes of its rivals, moved by theirs.
-- A rival with a point of its own has no place and is in nobody's way.
pub data HasShift (script : ScriptValue) (fonts : List FontValue) (frame : FrameView) (events : List Event) : Event → Stand → ℤ → Type 0 where
  Placed : (e : Event) (stand : Stand) (others : List Box2) (place_of : Event → Option (Stand × ℤ)) (shift : ℤ)
      → IsStandOf script fonts frame e stand
      → ((f : Event) → IsRival events e f → place_of f ≡ None → HasPoint f)
      → ((f : Event) (s : Stand) (z : ℤ) → IsRival events e f → place_of f ≡ Some (s, z) → HasShift script fonts frame events f s z)
      → ((box : Box2) → Contains others box ↔ IsRivalBox events place_of e box)
      → IsLeastShift stand.place others stand.down shift
      → HasShift script fonts frame events e stand shift

-- How far down an event is moved: by its shift, down or up; one that has a point of its own, or no rivals, isn't moved.
pub data IsMovedBy (script : ScriptValue) (fonts : List FontValue) (frame : FrameView) (events : List Event) : Event → ℤ → Type 0 where
  Shifted : (e : Event) (stand : Stand) (shift : ℤ) → HasShift script fonts frame events e stand shift
      → IsMovedBy script fonts frame events e (down_by stand shift)
  Pointed : (e : Event) → HasPoint e → IsMovedBy script fonts frame events e (pos 0)
  Alone : (e : Event) → ((f : Event) → IsRival events e f → ⊥) → IsMovedBy script fonts frame events e (pos 0)

-- ---- laws

-- An event has at most one stand, and none where it has a point of its own.
pub record HaveOneStand (script : ScriptValue) (fonts : List FontValue) (frame : FrameView) : Type 0 where
  pub one : (e : Event) (a b : Stand) → IsStandOf script fonts frame e a → IsStandOf script fonts frame e b → a ≡ b
  pub pointless : (e : Event) (a : Stand) → IsStandOf script fonts frame e a → HasPoint e → ⊥

-- So it has at most one shift.
abbrev pub HaveOneShift : ScriptValue → List FontValue → FrameView → Type 0
HaveOneShift script fonts frame =
    (events : List Event) (e : Event) (s r : Stand) (a b : ℤ) → HasShift script fonts frame events e s a → HasShift script fonts frame events e r b → a ≡ b

-- So there is one distance that it is moved by.
abbrev pub HaveOneMove : ScriptValue → List FontValue → FrameView → Type 0
HaveOneMove script fonts frame = (events : List Event) (e : Event) (a b : ℤ) → IsMovedBy script fonts frame events e a → IsMovedBy script fonts frame events e b → a ≡ b
