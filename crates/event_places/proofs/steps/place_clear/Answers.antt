use Rattle.std.proofs.Common.{rules, SFits, w64}
use Rattle.std.proofs.lemmas.Int.{to_z-of_z}
use Rattle.event_places.specs.Steps.{most_before}
use Rattle.event_places.proofs.ClearLemmas.{boxes_within, clearing_is, stay_within}
use Rattle.event_places.proofs.steps.place_clear.Goals as goal

pub bound_for-bound-requires-clause-within : goal.bound_for-bound-requires-clause-within
bound_for-bound-requires-clause-within c = rw c.drop_others.ensures.boxes (stay_within most_before c.args.span.now c.args.kept.now.boxes.items c.requires.within)

pub shift_clear-shift-requires-clause-within : goal.shift_clear-shift-requires-clause-within
shift_clear-shift-requires-clause-within c =
    rw (c.as_slice.ensures.value, c.bound_for-bound.ensures.boxes, c.drop_others.ensures.boxes) (stay_within most_before c.args.span.now c.args.kept.now.boxes.items c.requires.within)

pub shift_clear-shift-requires-clause-sorted : goal.shift_clear-shift-requires-clause-sorted
shift_clear-shift-requires-clause-sorted c = rw c.as_slice.ensures.value c.bound_for-bound.ensures.kept.sorted

pub shift_clear-shift-requires-clause-high : goal.shift_clear-shift-requires-clause-high
shift_clear-shift-requires-clause-high c =
    let tallest = c.bound_for-bound.new.self.tallest in
    let f : SFits w64 tallest = search rules in
    rw (c.as_slice.ensures.value, to_z-of_z w64 tallest f) c.bound_for-bound.ensures.kept.high

pub shift_clear-shift-requires-clause-known : goal.shift_clear-shift-requires-clause-known
shift_clear-shift-requires-clause-known c =
    let bound = c.bound_for-bound.result in
    let f : SFits w64 bound = search rules in
    rw (c.as_slice.ensures.value, c.bound_for-bound.ensures.boxes, to_z-of_z w64 bound f) c.bound_for-bound.ensures.bound

pub returns-clause-clearing : goal.returns-clause-clearing
returns-clause-clearing c =
    let shift = c.shift_clear-shift.result in
    let f : SFits w64 shift = search rules in
    rw (to_z-of_z w64 shift f)
    (clearing_is c.args.span.now c.args.stand.now c.args.kept.now.boxes.items c.requires.stand shift c.shift_clear-shift.ensures.range
    (rw (c.as_slice.ensures.value, c.bound_for-bound.ensures.boxes, c.drop_others.ensures.boxes) at c.shift_clear-shift.ensures.least) c.add.new.self.boxes.items
    (rw (c.bound_for-bound.ensures.boxes, c.drop_others.ensures.boxes, to_z-of_z w64 shift f) at c.in_ok-add.ensures.members))

pub returns-clause-within : goal.returns-clause-within
returns-clause-within c =
    let shift = c.shift_clear-shift.result in
    let f : SFits w64 shift = search rules in
    boxes_within c.args.span.now c.args.stand.now c.args.kept.now.boxes.items c.requires.stand shift c.shift_clear-shift.ensures.range
    (rw (c.as_slice.ensures.value, c.bound_for-bound.ensures.boxes, c.drop_others.ensures.boxes) at c.shift_clear-shift.ensures.least) c.add.new.self.boxes.items
    (rw (c.bound_for-bound.ensures.boxes, c.drop_others.ensures.boxes, to_z-of_z w64 shift f) at c.in_ok-add.ensures.members)
