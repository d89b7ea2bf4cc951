use Rattle.std.proofs.Common.{map, arith, to_z-of_z}
use Rattle.std.specs.Arc.{arc_value}
use Rattle.std.proofs.lemmas.List.{length-map}
use Rattle.world_core.proofs.Feeding.{near-few, near-orders, near-plan, near-short}
use Rattle.world_core.proofs.looking.plan_at.Goals as goal

pub plan_of_spans-requires-clause-events : goal.plan_of_spans-requires-clause-events
plan_of_spans-requires-clause-events c = let h = c.requires.history in
    rw c.as_slice.ensures (λ k d below. (near-short c.args.track.now h.0 h.1 c.args.t (map arc_value c.in_ok-near.near.events) (rw (to_z-of_z c.ranges.t) at c.in_ok-near.ensures.events) k d below).is_event)

pub plan_of_spans-requires-clause-texts : goal.plan_of_spans-requires-clause-texts
plan_of_spans-requires-clause-texts c = let h = c.requires.history in
    rw c.as_slice.ensures (λ k d below. omega (arith, (near-short c.args.track.now h.0 h.1 c.args.t (map arc_value c.in_ok-near.near.events) (rw (to_z-of_z c.ranges.t) at c.in_ok-near.ensures.events) k d below).texts))

pub plan_of_spans-requires-clause-few : goal.plan_of_spans-requires-clause-few
plan_of_spans-requires-clause-few c = let h = c.requires.history in
    rw c.as_slice.ensures (omega (arith, near-few c.args.track.now h.0 h.1 c.args.t (map arc_value c.in_ok-near.near.events) (rw (to_z-of_z c.ranges.t) at c.in_ok-near.ensures.events), length-map c.in_ok-near.near.events arc_value))

pub plan_of_spans-requires-clause-orders : goal.plan_of_spans-requires-clause-orders
plan_of_spans-requires-clause-orders c = let h = c.requires.history in
    rw c.as_slice.ensures (near-orders c.args.track.now h.0 h.1 c.args.t (map arc_value c.in_ok-near.near.events) (rw (to_z-of_z c.ranges.t) at c.in_ok-near.ensures.events))

pub plan_of_spans-requires-clause-near : goal.plan_of_spans-requires-clause-near
plan_of_spans-requires-clause-near c = rw (c.as_slice-spans.ensures, c.as_slice.ensures) c.in_ok-near.ensures.spans

pub returns : goal.returns
returns c = λ history tells.
    near-plan c.args.track.now history tells c.args.t (map arc_value c.in_ok-near.near.events) (rw (to_z-of_z c.ranges.t) at c.in_ok-near.ensures.events) c.args.setting.now.script c.args.setting.now.fonts c.args.setting.now.frame c.plan_of_spans.result (rw (c.as_slice.ensures, to_z-of_z c.ranges.t) at c.plan_of_spans.ensures.draws)
