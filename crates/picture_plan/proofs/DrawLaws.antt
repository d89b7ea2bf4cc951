-- The laws of the draws of a set of events.
use Rattle.std.proofs.Common.{ℤ, List}
use Rattle.ass_events.specs.NearEvents.{AreNear, IsNear, Shown, span_of}
use Rattle.ass_events.specs.declared.event.Event.{Event}
use Rattle.ass_script.specs.Scripts.{ScriptValue}
use Rattle.bdf_font.specs.Fonts.{FontValue}
use Rattle.event_places.proofs.RivalAgreement.{near_have_all, relisted, rivals_are_near}
use Rattle.near_events.proofs.NearSpans.{near_there}
use Rattle.picture_plan.proofs.Agreement.{Agree, draws_agree}
use Rattle.picture_plan.specs.Pictures.{DrawsOfASet, DrawsOfNearEvents, HaveSameEvents, PicturesOfASet, PicturesOfNearEvents}

always : Event → Type 0
always _ = Unit {0}

same_agree : (t : ℤ) (a b : List Event) → HaveSameEvents a b → Agree always t a b
unfolding always
same_agree t a b same = record {
  rivals = record { rivals = λ e f _ r. (relisted (same f).0 r, tt); back = λ e f _ r. relisted (same f).1 r };
  shown = λ e _. same e;
  drawn = λ e _ _. tt;
}

pub draws_of_a_set : (script : ScriptValue) (fonts : List FontValue) → DrawsOfASet script fonts
draws_of_a_set script fonts a b t frame draws same d = draws_agree always (same_agree t a b same) d

to_near : (t : ℤ) (events near : List Event) → AreNear span_of events t near → Agree (IsNear span_of events t) t events near
to_near t events near h = record {
  rivals = rivals_are_near t events near h;
  shown = λ e s. (λ c. (h.members e).1 (Shown c s), λ c. near_there span_of events t e ((h.members e).0 c));
  drawn = λ e s c. Shown c s;
}

from_near : (t : ℤ) (events near : List Event) → AreNear span_of events t near → Agree (IsNear span_of events t) t near events
from_near t events near h = record {
  rivals = near_have_all t events near h;
  shown = λ e s. (λ c. near_there span_of events t e ((h.members e).0 c), λ c. (h.members e).1 (Shown c s));
  drawn = λ e s c. (h.members e).0 c;
}

pub draws_of_near_events : (script : ScriptValue) (fonts : List FontValue) → DrawsOfNearEvents script fonts
draws_of_near_events script fonts events near t frame draws h = (
  λ d. draws_agree (IsNear span_of events t) (from_near t events near h) d,
  λ d. draws_agree (IsNear span_of events t) (to_near t events near h) d,
)

-- ---- pictures

pub pictures_of_a_set : (script : ScriptValue) (fonts : List FontValue) → PicturesOfASet script fonts
pictures_of_a_set script fonts a b t frame canvas same p =
    record { draws = p.draws; are_draws = draws_of_a_set script fonts a b t frame p.draws same p.are_draws; value = p.value }

pub pictures_of_near_events : (script : ScriptValue) (fonts : List FontValue) → PicturesOfNearEvents script fonts
pictures_of_near_events script fonts events near t frame canvas h = (
  λ p. record { draws = p.draws; are_draws = (draws_of_near_events script fonts events near t frame p.draws h).0 p.are_draws; value = p.value },
  λ p. record { draws = p.draws; are_draws = (draws_of_near_events script fonts events near t frame p.draws h).1 p.are_draws; value = p.value },
)
