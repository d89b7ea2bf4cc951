-- Inner: how events are moved one after the other, each clear of those that were moved before it.
use Rattle.std.specs.Prelude.{◌≡◌, ℕ, Bool, ◌&&◌, ◌-◌, ◌+ℤ◌, int_lt, ◌≤ℤ◌, List, [], ◌∷◌, ◌++◌, Contains, All, Option, Some, None, map, slice_get, ℤ, pos}
use Rattle.std.specs.List.{AllPairs, filter}
use Rattle.std.specs.List.Sorted.{IsPermutation}
use Rattle.std.specs.Ordering.{int_eq}
use Rattle.ass_num.specs.Limits.{IsWithin}
use Rattle.frame_view.specs.declared.view.FrameView.{FrameView}
use Rattle.ass_events.specs.Histories.{max_live}
use Rattle.ass_events.specs.declared.event.Event.{Event}
use Rattle.ass_script.specs.Scripts.{ScriptValue}
use Rattle.bdf_font.specs.Fonts.{FontValue}
use Rattle.event_places.specs.Placement.{IsBoxWithin, IsClear, IsLeastShift, IsPlaceableStand, IsShift, max_height, moved_box}
use Rattle.event_places.specs.declared.stands.Box2.{Box2}
use Rattle.event_places.specs.declared.stands.Stand.{Stand}
use Rattle.override_tags.specs.declared.item.Item.{Item}
use Rattle.tag_state.specs.Views.{AreReadItems}
use Rattle.event_places.specs.Limits.{max_shift, reach}
use Rattle.event_places.specs.PlacedEvents.{IsOwnLayout}
use Rattle.event_places.specs.Stands.{HasPoint, IsStandOf, down_by}
use Rattle.event_places.specs.declared.kept.MovedBoxes.{MovedBoxes}
use Rattle.event_places.specs.declared.own.OwnLayout.{OwnLayout}
use Rattle.event_places.specs.declared.placed.PlacedEvent.{PlacedEvent}
use Rattle.near_events.specs.declared.spans.EventSpan.{EventSpan}
use Rattle.event_places.specs.declared.placed_boxes.PlacedBox.{PlacedBox}

-- what is left of the event of a span with this stand, moved by a shift: its box, and how long that is in the way
abbrev pub placed_box : EventSpan → Stand → ℤ → PlacedBox
placed_box span stand shift = record { layer = span.layer; end = span.end; place = moved_box stand.down shift stand.place }

-- An event that was moved is in the way of another one that starts later: it is in the same layer and ends after the other's start.
abbrev pub is_in_way : EventSpan → PlacedBox → Bool
is_in_way span placed = int_eq placed.layer span.layer && int_lt span.start placed.end

abbrev pub box_places : List PlacedBox → List Box2
box_places boxes = map (λ (x : PlacedBox). x.place) boxes

-- the boxes that are in the way of an event
abbrev pub boxes_in_way : EventSpan → List PlacedBox → List Box2
boxes_in_way span boxes = box_places (filter (is_in_way span) boxes)

-- None begins lower than one before it.
abbrev pub AreFromLowest : List PlacedBox → Type 0
AreFromLowest boxes = AllPairs (λ a b. b.place.top ≤ℤ a.place.top) boxes

-- The box is moved by the least shift that clears it of those in its way. They stay, and it comes to them; no other stays.
pub record IsClearing (span : EventSpan) (stand : Stand) (old : List PlacedBox) (shift : ℤ) (new : List PlacedBox) : Type 0 where
  pub least : IsLeastShift stand.place (boxes_in_way span old) stand.down shift
  pub within : IsWithin max_shift shift
  pub members : IsPermutation (placed_box span stand shift ∷ filter (is_in_way span) old) new

-- No box lies further out than so many can push one another.
abbrev pub AreBoxesWithin : ℕ → List PlacedBox → Type 0
AreBoxesWithin count boxes = All (λ (x : PlacedBox). IsBoxWithin (reach count) x.place) boxes

-- the most events that were moved before another one
abbrev pub most_before : ℕ
most_before = max_live - 1

-- None is higher than this.
abbrev pub AreNoTaller : ℤ → List PlacedBox → Type 0
AreNoTaller tallest boxes = All (λ (x : PlacedBox). x.place.bottom ≤ℤ (x.place.top +ℤ tallest)) boxes

-- No shift from 0 on that is less keeps the box of the stand clear of the boxes.
abbrev pub IsClearFrom : ℤ → Stand → List Box2 → Type 0
IsClearFrom shift stand boxes = (other : ℤ) → pos 0 ≤ℤ other → IsClear stand.place boxes stand.down other → shift ≤ℤ other

-- The range from `a` to `b` covers the one from `c` to `d`.
abbrev pub CoversRange : ℤ → ℤ → ℤ → ℤ → Type 0
CoversRange a b c d = (a ≤ℤ c) × (d ≤ℤ b)

abbrev pub CoversBox : Box2 → Box2 → Type 0
CoversBox a b = CoversRange a.left a.right b.left b.right × CoversRange a.top a.bottom b.top b.bottom

-- A stand gives way as another one does, and covers its box.
abbrev pub CoversStand : Stand → Stand → Type 0
CoversStand a b = (a.down ≡ b.down) × CoversBox a.place b.place

-- whether all boxes are sure to be in the way of an event
abbrev pub all_stay : EventSpan → MovedBoxes → Bool
all_stay span kept = int_eq kept.layer span.layer && int_lt span.start kept.first_end

-- What is known of the boxes that are kept.
pub record AreKeptBoxes (kept : MovedBoxes) : Type 0 where
  pub sorted : AreFromLowest kept.boxes.items
  pub layer : All (λ (x : PlacedBox). x.layer ≡ kept.layer) kept.boxes.items
  pub last : All (λ (x : PlacedBox). kept.first_end ≤ℤ x.end) kept.boxes.items
  pub high : AreNoTaller kept.tallest kept.boxes.items
  pub tallest : IsShift max_height kept.tallest
  pub tried : IsPlaceableStand kept.tried
  pub shift : IsShift max_shift kept.shift
  pub bound : IsClearFrom kept.shift kept.tried (box_places kept.boxes.items)

-- The span has its layer for itself.
abbrev pub IsAlone : List EventSpan → EventSpan → Type 0
IsAlone near span = (other : EventSpan) → Contains near other → other.layer ≡ span.layer → other ≡ span

-- an event that isn't moved
abbrev pub unmoved : ℕ → Option (List Item) → PlacedEvent
unmoved place read = record { place = place; down = pos 0; own = None; read = read }

abbrev pub placed_by : ℕ → Stand → ℤ → OwnLayout → List Item → PlacedEvent
placed_by place stand shift own read = record { place = place; down = down_by stand shift; own = Some own; read = Some read }

-- How an event is moved, behind some that were moved.
pub data IsPlacing (script : ScriptValue) (fonts : List FontValue) (frame : FrameView) (event : Event) (span : EventSpan) (old : List PlacedBox) : PlacedEvent → List PlacedBox → Type 0 where
  Pointed : (read : List Item) → AreReadItems event.text read → HasPoint event → IsPlacing script fonts frame event span old (unmoved span.place (Some read)) old
  Shifted : (stand : Stand) (shift : ℤ) (own : OwnLayout) (new : List PlacedBox) (read : List Item)
      → AreReadItems event.text read
      → IsStandOf script fonts frame event stand
      → IsOwnLayout script fonts frame event own
      → IsClearing span stand old shift new
      → IsPlacing script fonts frame event span old (placed_by span.place stand shift own read) new

-- The event of a span is moved, unless it has its layer for itself.
pub data IsPlacingStep (script : ScriptValue) (fonts : List FontValue) (frame : FrameView) (events : List Event) (near : List EventSpan) (span : EventSpan) (old : List PlacedBox) : PlacedEvent → List PlacedBox → Type 0 where
  Alone : IsAlone near span → IsPlacingStep script fonts frame events near span old (unmoved span.place None) old
  Moved : (event : Event) (one : PlacedEvent) (new : List PlacedBox) → slice_get events span.place ≡ Some event → IsPlacing script fonts frame event span old one new
      → IsPlacingStep script fonts frame events near span old one new

-- The spans were gone through one after the other.
pub data AreSteps (script : ScriptValue) (fonts : List FontValue) (frame : FrameView) (events : List Event) (near : List EventSpan) : List EventSpan → List PlacedEvent → List PlacedBox → Type 0 where
  First : AreSteps script fonts frame events near [] [] []
  Next : (spans : List EventSpan) (placed : List PlacedEvent) (boxes : List PlacedBox) (span : EventSpan) (one : PlacedEvent) (more : List PlacedBox)
      → AreSteps script fonts frame events near spans placed boxes
      → IsPlacingStep script fonts frame events near span boxes one more
      → AreSteps script fonts frame events near (spans ++ span ∷ []) (placed ++ one ∷ []) more

-- All spans were gone through.
abbrev pub IsGoneThrough : ScriptValue → List FontValue → FrameView → List Event → List EventSpan → List PlacedEvent → Type 0
IsGoneThrough script fonts frame events near placed = (boxes : List PlacedBox) × AreSteps script fonts frame events near near placed boxes
