-- Public: the draws of a picture: those of the events shown at an instant, by layer, then ReadOrder.
-- (Advanced SubStation Alpha, "Layer"; Matroska, "ReadOrder".)
use Rattle.std.specs.Prelude.{◌≡◌, ◌↔◌, ◌⊎◌, ◌<◌, List, [], ◌∷◌, ◌++◌, Contains, ℤ, ◌<ℤ◌}
use Rattle.frame_view.specs.declared.view.FrameView.{FrameView}
use Rattle.ass_events.specs.Histories.{Pairwise}
use Rattle.ass_events.specs.NearEvents.{AreNear, IsShownAt, span_of}
use Rattle.ass_events.specs.declared.event.Event.{Event}
use Rattle.ass_script.specs.Scripts.{ScriptValue}
use Rattle.bdf_font.specs.Fonts.{FontValue}
use Rattle.blend.specs.Canvases.{CanvasValue}
use Rattle.event_places.specs.Shifts.{IsMovedBy}
use Rattle.mask_keys.specs.declared.plans.Draw.{Draw}
use Rattle.mask_keys.specs.Pictures.{picture}
use Rattle.event_draws.specs.MovedDraws.{AreMovedDraws}

-- e is drawn before f: in a lower layer, or in the same one by ReadOrder.
abbrev pub IsDrawnBefore : Event → Event → Type 0
IsDrawnBefore e f = (e.layer <ℤ f.layer) ⊎ ((e.layer ≡ f.layer) × (e.order < f.order))

-- The list has just the events that are shown at t, the lowest first.
pub record AreShown (events : List Event) (t : ℤ) (shown : List Event) : Type 0 where
  pub members : (e : Event) → Contains shown e ↔ (Contains events e × IsShownAt (span_of e) t)
  pub sorted : Pairwise IsDrawnBefore shown

-- These are the draws of one of the events at t, which stands where it is moved to.
pub record AreEventDraws (script : ScriptValue) (fonts : List FontValue) (events : List Event) (t : ℤ) (frame : FrameView) (event : Event) (draws : List Draw) : Type 0 where
  pub shift : ℤ
  pub moved : IsMovedBy script fonts frame events event shift
  pub drawn : AreMovedDraws script fonts event t frame shift draws

-- These are the draws of events one after the other.
pub data AreDrawsInOrder (script : ScriptValue) (fonts : List FontValue) (events : List Event) (t : ℤ) (frame : FrameView) : List Event → List Draw → Type 0 where
  None : AreDrawsInOrder script fonts events t frame [] []
  Next : (event : Event) (above : List Event) (draws rest : List Draw)
      → AreEventDraws script fonts events t frame event draws
      → AreDrawsInOrder script fonts events t frame above rest
      → AreDrawsInOrder script fonts events t frame (event ∷ above) (draws ++ rest)

-- These are the draws of the picture that a set of events shows at t, in milliseconds.
pub record AreDraws (script : ScriptValue) (fonts : List FontValue) (events : List Event) (t : ℤ) (frame : FrameView) (draws : List Draw) : Type 0 where
  pub shown : List Event
  pub are_shown : AreShown events t shown
  pub in_order : AreDrawsInOrder script fonts events t frame shown draws

-- The canvas is the picture that a set of events shows at t, in milliseconds.
pub record IsPictureAt (script : ScriptValue) (fonts : List FontValue) (events : List Event) (t : ℤ) (frame : FrameView) (canvas : CanvasValue) : Type 0 where
  pub draws : List Draw
  pub are_draws : AreDraws script fonts events t frame draws
  pub value : canvas ≡ picture fonts frame.size draws

-- ---- laws

-- The two lists have the same events, in whatever order.
abbrev pub HaveSameEvents : List Event → List Event → Type 0
HaveSameEvents a b = (e : Event) → Contains a e ↔ Contains b e

-- What a set of events draws doesn't depend on the order in which they are listed.
abbrev pub DrawsOfASet : ScriptValue → List FontValue → Type 0
DrawsOfASet script fonts =
    (a b : List Event) (t : ℤ) (frame : FrameView) (draws : List Draw) → HaveSameEvents a b → AreDraws script fonts a t frame draws → AreDraws script fonts b t frame draws

-- The events that matter at an instant draw what all events do.
abbrev pub DrawsOfNearEvents : ScriptValue → List FontValue → Type 0
DrawsOfNearEvents script fonts =
    (events near : List Event) (t : ℤ) (frame : FrameView) (draws : List Draw)
    → AreNear span_of events t near → AreDraws script fonts near t frame draws ↔ AreDraws script fonts events t frame draws

-- So are their pictures.
abbrev pub PicturesOfASet : ScriptValue → List FontValue → Type 0
PicturesOfASet script fonts =
    (a b : List Event) (t : ℤ) (frame : FrameView) (canvas : CanvasValue)
    → HaveSameEvents a b → IsPictureAt script fonts a t frame canvas → IsPictureAt script fonts b t frame canvas

abbrev pub PicturesOfNearEvents : ScriptValue → List FontValue → Type 0
PicturesOfNearEvents script fonts =
    (events near : List Event) (t : ℤ) (frame : FrameView) (canvas : CanvasValue)
    → AreNear span_of events t near → IsPictureAt script fonts near t frame canvas ↔ IsPictureAt script fonts events t frame canvas
