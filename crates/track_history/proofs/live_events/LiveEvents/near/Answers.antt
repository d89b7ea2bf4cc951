use Rattle.std.proofs.Common.{◌≡◌, ℤ, ◌+◌, [], ◌∷◌, ◌++◌, length, map, get_or, take, sym, ap, subst, ◌∙◌, arith, rules, IsPermutation}
use Rattle.std.specs.Arc.{arc_value}
use Rattle.std.proofs.Math.Facts.{to_z-of_z}
use Rattle.std.proofs.lemmas.List.{get_or_default, length-map, map_push}
use Rattle.ass_events.specs.declared.event.Event.{Event}
use Rattle.ass_events.specs.NearEvents.{AreNear, span_of}
use Rattle.near_events.specs.Spans.{AreNearSpans, AreSpansInOrder, spans_from}
use Rattle.near_events.specs.declared.spans.EventSpan.{EventSpan}
use Rattle.near_events.proofs.Lists.{value_read}
use Rattle.near_events.proofs.NearSpans.{no_span}
use Rattle.track_history.specs.Blocks.{spans_of}
use Rattle.track_history.specs.Tellings.{events_of}
use Rattle.track_history.proofs.Places.{AreEventsAt, events_more, found_more, near_at_end, place_within, spans_at_end}
use Rattle.track_history.proofs.live_events.LiveEvents.near.Goals as goal

pub index-requires : goal.index-requires
index-requires c =
    let self = c.args.self.now in let read = c.deref-span-items.result.now in let k = c.loop-span.span-index in let lt = c.loop-span-test.true in
    let s = get_or read k no_span in
    let within = place_within (events_of self) (spans_of self.index.blocks.items) _ _ read k s c.requires.spans c.in_ok-found.ensures.near c.deref-span-items.ensures.value lt (get_or_default read k no_span s lt) in
    omega (arith, within, length-map self.events.items arc_value, self.events.ok.0)

pub loop-span-preserved : goal.loop-span-preserved
loop-span-preserved c =
    let self = c.args.self.now in let read = c.deref-span-items.result.now in let k = c.loop-span.span-index in let lt = c.loop-span-test.true in
    let s = get_or read k no_span in let arcs = self.events.items in
    let spans = spans_of self.index.blocks.items in
    let within = place_within (events_of self) spans _ _ read k s c.requires.spans c.in_ok-found.ensures.near c.deref-span-items.ensures.value lt (get_or_default read k no_span s lt) in
    let a = c.index.result.now in let shared = c.in_ok-try_clone.field-0 in let near = c.loop-span.events.items in
    let at = value_read arc_value arcs s.place a (omega (arith, within, length-map arcs arc_value)) c.index.ensures in
    let more = events_more (events_of self) read (map arc_value near) k s (arc_value a) lt (get_or_default read k no_span s lt) c.loop-span.invariant.at at in
    let made : map arc_value c.push.new.self.items ≡ map arc_value near ++ arc_value a ∷ [] =
    ap (λ xs. map arc_value xs) c.in_ok-push.ensures.items ∙ (map_push arc_value near shared ∙ ap (λ (z : Event). map arc_value near ++ z ∷ []) c.in_ok-try_clone.ensures) in
    let place = c.len-place.result in
    let many : place ≡ length near = first_of (search rules, omega (arith, c.len-place.ensures, c.loop-span.events.ok.0), omega (arith, c.len-place.ensures, c.loop-span.events.ok)) in
    let count : place ≡ length (map arc_value near) = omega (arith, many, length-map near arc_value) in
    let next = found_more (events_of self) spans _ _ read k s c.requires.spans c.in_ok-found.ensures.near c.deref-span-items.ensures.value lt (get_or_default read k no_span s lt) (arc_value a) at (map arc_value near) place count in
    record {
      at = subst (AreEventsAt (events_of self) (take (k + 1) read)) (sym made) more;
      spans =
          c.in_ok-push-2.ensures.items
          ∙ (ap (λ z. z ++ c.moved_to.result ∷ []) c.loop-span.invariant.spans
          ∙ (ap (λ (z : EventSpan). spans_from 0 (map arc_value near) ++ z ∷ []) c.moved_to.ensures ∙ sym (ap (spans_from 0) made ∙ next)));
    }

pub returns-clause-events : goal.returns-clause-events
returns-clause-events c =
    let self = c.args.self.now in let read = c.deref-span-items.result.now in
    subst (λ (t : ℤ). AreNear span_of (events_of self) t (map arc_value c.from_vec.result)) (to_z-of_z c.ranges.t)
    (near_at_end (events_of self) (spans_of self.index.blocks.items) _ _ read (map arc_value c.from_vec.result) c.loop-span.span-index c.requires.spans c.in_ok-found.ensures.near c.deref-span-items.ensures.value
    c.loop-span-test.false (subst (λ xs. AreEventsAt (events_of self) (take c.loop-span.span-index read) (map arc_value xs)) (sym c.from_vec.ensures) c.loop-span.invariant.at))

pub returns-clause-spans : goal.returns-clause-spans
returns-clause-spans c =
    let self = c.args.self.now in let read = c.deref-span-items.result.now in
    let near = map arc_value c.from_vec.result in
    subst (λ (t : ℤ). AreNearSpans near t c.from_vec-2.result) (to_z-of_z c.ranges.t)
    (spans_at_end (events_of self) (spans_of self.index.blocks.items) _ _ read near c.loop-span.span-index c.requires.spans c.in_ok-found.ensures.near c.deref-span-items.ensures.value
    c.loop-span-test.false (subst (λ xs. AreEventsAt (events_of self) (take c.loop-span.span-index read) (map arc_value xs)) (sym c.from_vec.ensures) c.loop-span.invariant.at)
    c.in_ok-found.ensures.orders c.loop-span.spans.items c.from_vec-2.result (c.loop-span.invariant.spans ∙ ap (λ xs. spans_from 0 (map arc_value xs)) (sym c.from_vec.ensures))
    (subst (λ xs. IsPermutation c.loop-span.spans.items xs) (sym c.from_vec-2.ensures) c.sort_by_layer.ensures.permutation)
    (subst AreSpansInOrder (sym c.from_vec-2.ensures) c.sort_by_layer.ensures.sorted))
