use Rattle.std.proofs.Common.{◌≡◌, ◌≤◌, ◌≤ℤ◌, true, get_or, length, rules, arith, FitsSigned, w64, to_z, of_z, to_z-of_z}
use Rattle.std.specs.List.{All}
use Rattle.std.proofs.lemmas.Int.{ints}
use Rattle.std.proofs.lemmas.List.{get_or_default}
use Rattle.near_events.specs.Bounds.{is_behind}
use Rattle.near_events.specs.declared.spans.EventSpan.{EventSpan}
use Rattle.near_events.proofs.Lists.{all_taken}
use Rattle.near_events.proofs.NearSpans.{lowered_more, no_span}
use Rattle.near_events.proofs.near.lowered.Goals as goal

pub loop-span-preserved : goal.loop-span-preserved
loop-span-preserved c =
    let low = c.lowered_by-low.result in
    let fits : FitsSigned w64 low = search rules in
    let inv = c.loop-span.invariant in
    let by = inv.by in
    let down = c.lowered_by-low.ensures.low in
    let k = c.loop-span.span-index in
    let s = get_or c.args.spans.now k no_span in
    rw (to_z-of_z fits)
    (record {
      by = omega (arith, ints, by, down);
      all = lowered_more _ _ _ low c.args.spans.now k s c.loop-span-test.true (get_or_default c.args.spans.now k no_span s c.loop-span-test.true) by down c.lowered_by-low.ensures.start inv.all;
    })

pub returns-clause-all : goal.returns-clause-all
returns-clause-all c =
    let past : length c.args.spans.now ≤ c.loop-span.span-index = omega (arith, c.loop-span-test.false) in
    let P = λ (s : EventSpan). is_behind (to_z w64 (of_z w64 c.args.t)) (to_z w64 (of_z w64 c.args.from)) s ≡ true → to_z w64 c.loop-span.low-bits ≤ℤ s.start in
    let all : All P c.args.spans.now = all_taken P c.args.spans.now c.loop-span.span-index past c.loop-span.invariant.all in
    rw (to_z-of_z c.ranges.t, to_z-of_z c.ranges.from) at all
