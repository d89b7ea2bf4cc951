use Rattle.std.proofs.Common.{ℤ, map, subst, rules, FitsSigned, w64, to_z-of_z}
use Rattle.std.specs.Arc.{arc_value}
use Rattle.near_events.specs.Spans.{AreNearSpans}
use Rattle.near_events.proofs.NearSpans.{near_spans_are, starts_from}
use Rattle.near_events.proofs.near.near_spans.Goals as goal

pub bound_of-bound-requires : goal.bound_of-bound-requires
bound_of-bound-requires c = rw (c.as_slice.ensures.value, c.in_ok-spans.ensures) (starts_from 0 (map arc_value c.args.events.now) c.requires.events)

pub returns : goal.returns
returns c =
    let fits : FitsSigned w64 c.bound_of-bound.result = search rules in
    subst (λ (t : ℤ). AreNearSpans (map arc_value c.args.events.now) t c.in_ok-found.found.items) (to_z-of_z c.ranges.t)
    (near_spans_are (map arc_value c.args.events.now) _ c.bound_of-bound.result c.in_ok-spans.spans.items c.in_ok-few.few.items c.sort_by_layer.new.spans.items c.in_ok-found.found.items c.requires.orders
    c.in_ok-spans.ensures (rw c.as_slice.ensures.value at c.bound_of-bound.ensures) (rw (c.as_slice-2.ensures.value, to_z-of_z fits) at c.in_ok-few.ensures) c.sort_by_layer.ensures.permutation
    c.sort_by_layer.ensures.sorted (rw c.as_slice-3.ensures.value at c.in_ok-found.ensures))
