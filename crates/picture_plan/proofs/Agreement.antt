-- Two sets of events that agree on the events that are drawn, and on the rivals of these and of their rivals, draw the same.
use Rattle.std.proofs.Common.{◌↔◌, ℤ, List, Contains, All}
use Rattle.std.proofs.lemmas.List.Elements.{All-contains_itself, All-head, All-tail, All-weaker}
use Rattle.frame_view.specs.declared.view.FrameView.{FrameView}
use Rattle.ass_events.specs.NearEvents.{IsShownAt, span_of}
use Rattle.ass_events.specs.declared.event.Event.{Event}
use Rattle.ass_script.specs.Scripts.{ScriptValue}
use Rattle.bdf_font.specs.Fonts.{FontValue}
use Rattle.event_places.proofs.RivalAgreement.{HaveSameRivals, moved_agrees}
use Rattle.mask_keys.specs.declared.plans.Draw.{Draw}
use Rattle.picture_plan.specs.Pictures.{AreShown, AreEventDraws, AreDrawsInOrder, None, Next, AreDraws}

-- Of the events that matter the sets have the same rivals, which matter too; and of what is shown they have the same, which matters.
pub record Agree (matters : Event → Type 0) (t : ℤ) (a b : List Event) : Type 0 where
  pub rivals : HaveSameRivals matters a b
  pub shown : (e : Event) → IsShownAt (span_of e) t → Contains a e ↔ Contains b e
  pub drawn : (e : Event) → IsShownAt (span_of e) t → Contains a e → matters e

event_agrees : {script : ScriptValue} {fonts : List FontValue} {frame : FrameView} {a b : List Event} {t : ℤ} (matters : Event → Type 0)
    → Agree matters t a b
    → (e : Event) (draws : List Draw) → matters e → AreEventDraws script fonts a t frame e draws → AreEventDraws script fonts b t frame e draws
event_agrees matters h e draws m d = record { shift = d.shift; moved = moved_agrees matters h.rivals e d.shift m d.moved; drawn = d.drawn }

in_order_agrees : {script : ScriptValue} {fonts : List FontValue} {frame : FrameView} {a b : List Event} {t : ℤ} (matters : Event → Type 0)
    → Agree matters t a b
    → (shown : List Event) (draws : List Draw) → All matters shown
    → AreDrawsInOrder script fonts a t frame shown draws → AreDrawsInOrder script fonts b t frame shown draws
in_order_agrees matters h _ _ m None = None
in_order_agrees matters h _ _ m (Next event above draws rest first others) =
    Next event above draws rest
    (event_agrees matters h event draws (All-head matters event above m) first)
    (in_order_agrees matters h above rest (All-tail matters event above m) others)

shown_matter : {a b : List Event} {t : ℤ} (matters : Event → Type 0) → Agree matters t a b → (shown : List Event) → AreShown a t shown → All matters shown
shown_matter matters h shown s =
    All-weaker (Contains shown) matters (λ e c. let p = (s.members e).0 c in h.drawn e p.1 p.0) shown (All-contains_itself shown)

shown_agrees : {a b : List Event} {t : ℤ} (matters : Event → Type 0) → Agree matters t a b → (shown : List Event) → AreShown a t shown → AreShown b t shown
shown_agrees matters h shown s = record {
  members = λ e. (
    λ c. let p = (s.members e).0 c in ((h.shown e p.1).0 p.0, p.1),
    λ p. (s.members e).1 ((h.shown e p.1).1 p.0, p.1),
  );
  sorted = s.sorted;
}

-- So they draw the same.
pub draws_agree : {script : ScriptValue} {fonts : List FontValue} {frame : FrameView} {a b : List Event} {t : ℤ} {draws : List Draw} (matters : Event → Type 0)
    → Agree matters t a b → AreDraws script fonts a t frame draws → AreDraws script fonts b t frame draws
draws_agree {draws} matters h d = record {
  shown = d.shown;
  are_shown = shown_agrees matters h d.shown d.are_shown;
  in_order = in_order_agrees matters h d.shown draws (shown_matter matters h d.shown d.are_shown) d.in_order;
}
