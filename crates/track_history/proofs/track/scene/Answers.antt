use Rattle.std.proofs.Common.{ℤ, List, map, of_z, subst, to_z, w64}
use Rattle.std.specs.Arc.{arc_value}
use Rattle.std.proofs.Math.Facts.{to_z-of_z}
use Rattle.ass_events.specs.declared.event.Event.{Event}
use Rattle.ass_events.specs.Histories.{live}
use Rattle.ass_events.specs.NearEvents.{AreNear, span_of}
use Rattle.near_events.specs.Spans.{AreNearSpans}
use Rattle.track_history.proofs.LawLemmas.{near_short}
use Rattle.track_history.proofs.track.scene.Goals as goal

pub returns : goal.returns
returns c = λ history tells.
    let t = c.args.t in let found = c.in_ok-events.field-0 in let events = map arc_value found.events in
    let told = subst (λ (es : List Event). AreNear span_of es (to_z w64 (of_z w64 t)) events) tells.events c.in_ok-events.ensures.events in
    let near : AreNear span_of (live history) t events = subst (λ (z : ℤ). AreNear span_of (live history) z events) (to_z-of_z c.ranges.t) told in
    record {
      n = c.entries.ensures history tells;
      instant = to_z-of_z c.ranges.t;
      events = near;
      spans = subst (λ (z : ℤ). AreNearSpans events z found.spans) (to_z-of_z c.ranges.t) c.in_ok-events.ensures.spans;
      short = near_short history events t tells.short near;
    }
