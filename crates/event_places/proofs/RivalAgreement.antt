-- Two sets of events that agree on the rivals of the events that matter move these alike.
use Rattle.std.proofs.Common.{ℤ, List, Contains, Option}
use Rattle.frame_view.specs.declared.view.FrameView.{FrameView}
use Rattle.ass_events.specs.NearEvents.{AreNear, IsNear, Shown, Chained, span_of}
use Rattle.ass_events.specs.declared.event.Event.{Event}
use Rattle.ass_script.specs.Scripts.{ScriptValue}
use Rattle.bdf_font.specs.Fonts.{FontValue}
use Rattle.event_places.specs.declared.stands.Box2.{Box2}
use Rattle.event_places.specs.declared.stands.Stand.{Stand}
use Rattle.near_events.proofs.NearSpans.{near_there}
use Rattle.event_places.specs.Shifts.{IsRival, IsRivalBox, HasShift, Placed, IsMovedBy, Shifted, Pointed, Alone}

-- The events that matter have the same rivals in both sets, which matter too.
pub record HaveSameRivals (matters : Event → Type 0) (a b : List Event) : Type 0 where
  pub rivals : (e f : Event) → matters e → IsRival a e f → IsRival b e f × matters f
  pub back : (e f : Event) → matters e → IsRival b e f → IsRival a e f

rival_box : {a b : List Event} {place_of : Event → Option (Stand × ℤ)} {e : Event} {box : Box2} → ((f : Event) → IsRival a e f → IsRival b e f)
    → IsRivalBox a place_of e box → IsRivalBox b place_of e box
rival_box over h = record { rival = h.rival; is_rival = over h.rival h.is_rival; stand = h.stand; shift = h.shift; stands = h.stands; moved = h.moved }

shift_agrees : {script : ScriptValue} {fonts : List FontValue} {frame : FrameView} {a b : List Event} (matters : Event → Type 0) → HaveSameRivals matters a b
    → (e : Event) (stand : Stand) (shift : ℤ) → matters e → HasShift script fonts frame a e stand shift → HasShift script fonts frame b e stand shift
shift_agrees matters h _ _ _ m (Placed e stand others place_of shift stands points each boxes least) =
    Placed e stand others place_of shift stands
    (λ f rival none. points f (h.back e f m rival) none)
    (λ f s z rival has.
    let was = h.back e f m rival in
    shift_agrees matters h f s z (h.rivals e f m was).1 (each f s z was has))
    (λ box. (
      λ c. rival_box (λ f r. (h.rivals e f m r).0) ((boxes box).0 c),
      λ r. (boxes box).1 (rival_box (λ f r. h.back e f m r) r),
    ))
    least

pub moved_agrees : {script : ScriptValue} {fonts : List FontValue} {frame : FrameView} {a b : List Event} (matters : Event → Type 0) → HaveSameRivals matters a b
    → (e : Event) (down : ℤ) → matters e → IsMovedBy script fonts frame a e down → IsMovedBy script fonts frame b e down
moved_agrees matters h _ _ m (Shifted e stand shift shifted) = Shifted e stand shift (shift_agrees matters h e stand shift m shifted)
moved_agrees matters h _ _ m (Pointed e point) = Pointed e point
moved_agrees matters h _ _ m (Alone e alone) = Alone e (λ f r. alone f (h.back e f m r))

pub relisted : {a b : List Event} {e f : Event} → (Contains a f → Contains b f) → IsRival a e f → IsRival b e f
relisted over r = record { listed = over r.listed; before = r.before; lasts = r.lasts }

-- Whatever an event that matters has to stand clear of matters.
pub near_rival : {events : List Event} {t : ℤ} {e f : Event} → IsNear span_of events t e → IsRival events e f → IsNear span_of events t f
near_rival near r = Chained near r.listed r.before r.lasts

-- The events that matter at an instant have the same rivals among all events as among themselves.
pub rivals_are_near : (t : ℤ) (events near : List Event) → AreNear span_of events t near → HaveSameRivals (IsNear span_of events t) events near
rivals_are_near t events near h = record {
  rivals = λ e f n r. let m = near_rival n r in (relisted (λ _. (h.members f).1 m) r, m);
  back = λ e f n r. relisted (λ c. near_there span_of events t f ((h.members f).0 c)) r;
}

pub near_have_all : (t : ℤ) (events near : List Event) → AreNear span_of events t near → HaveSameRivals (IsNear span_of events t) near events
near_have_all t events near h = record {
  rivals = λ e f n r. let m = (h.members f).0 r.listed in (relisted (λ c. near_there span_of events t f m) r, m);
  back = λ e f n r. relisted (λ _. (h.members f).1 (near_rival n r)) r;
}
