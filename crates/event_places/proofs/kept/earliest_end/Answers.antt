use Rattle.std.proofs.Common.{◌≤◌, ◌≤ℤ◌, get_or, length, rules, arith, FitsSigned, w64, to_z, to_z-of_z}
use Rattle.std.proofs.lemmas.List.{get_or_default}
use Rattle.event_places.specs.declared.placed_boxes.PlacedBox.{PlacedBox}
use Rattle.event_places.proofs.KeptLemmas.{ends_more}
use Rattle.near_events.proofs.Lists.{all_taken}
use Rattle.event_places.proofs.WalkLemmas.{no_box}
use Rattle.event_places.proofs.kept.earliest_end.Goals as goal

pub loop-one-preserved : goal.loop-one-preserved
loop-one-preserved c =
    let next = c.earlier_end-first.result in
    let fits : FitsSigned w64 next = search rules in
    let k = c.loop-one.one-index in
    let x = get_or c.args.boxes.now k no_box in
    rw (to_z-of_z fits)
    (ends_more _ next c.args.boxes.now k x c.loop-one-test.true (get_or_default c.args.boxes.now k no_box x c.loop-one-test.true) c.earlier_end-first.ensures.first c.earlier_end-first.ensures.end
    c.loop-one.invariant)

pub returns : goal.returns
returns c =
    let past : length c.args.boxes.now ≤ c.loop-one.one-index = omega (arith, c.loop-one-test.false) in
    all_taken (λ (x : PlacedBox). to_z w64 c.loop-one.first-bits ≤ℤ x.end) c.args.boxes.now c.loop-one.one-index past c.loop-one.invariant
