use Rattle.std.proofs.Common.{rules, arith, get_or, SFits, w64}
use Rattle.std.proofs.lemmas.Int.{to_z-of_z}
use Rattle.std.proofs.lemmas.List.{get_or_default}
use Rattle.event_places.specs.Placement.{max_place, max_box}
use Rattle.event_places.proofs.ShiftLemmas.{IsBoxWithin-wider}
use Rattle.event_places.proofs.ReplayLemmas.{Replayed-none, Replayed-more, sorted_are, sorted_near, all_moved, no_stand}
use Rattle.event_places.proofs.stand_list.replay.Goals as goal

pub loop-stand-init : goal.loop-stand-init
loop-stand-init c = rw (c.new-shown.ensures.items, c.in_ok-shifts.ensures.items) (Replayed-none c.args.list.now)

pub least_shift-shift-requires-clause-within : goal.least_shift-shift-requires-clause-within
least_shift-shift-requires-clause-within c = IsBoxWithin-wider max_place max_box _ (omega arith) (c.requires.placeable c.loop-stand.stand-index _ c.loop-stand-test.true).within

pub least_shift-shift-requires-clause-others_within : goal.least_shift-shift-requires-clause-others_within
least_shift-shift-requires-clause-others_within c =
    let i = c.loop-stand.stand-index in
    let p = sorted_are c.args.list.now c.loop-stand.shown.items _ _ _ _ i c.drop_ended.ensures c.as_slice.ensures.value c.in_ok-boxes_of.ensures c.sort_along.ensures in
    rw c.as_slice-in-loop-stand.ensures.value (sorted_near c.args.list.now c.loop-stand.shown.items c.loop-stand.shifts.items _ i c.requires.few c.loop-stand-test.true p c.loop-stand.invariant)

pub moved_stand-requires-clause-within : goal.moved_stand-requires-clause-within
moved_stand-requires-clause-within c = IsBoxWithin-wider max_place max_box _ (omega arith) (c.requires.placeable c.loop-stand.stand-index _ c.loop-stand-test.true).within

pub moved_stand-requires-clause-shift : goal.moved_stand-requires-clause-shift
moved_stand-requires-clause-shift c =
    let i = c.loop-stand.stand-index in
    let s = get_or c.args.list.now i no_stand in
    let f : SFits w64 c.least_shift-shift.result = search rules in
    let p = sorted_are c.args.list.now c.loop-stand.shown.items _ _ _ _ i c.drop_ended.ensures c.as_slice.ensures.value c.in_ok-boxes_of.ensures c.sort_along.ensures in
    let near = sorted_near c.args.list.now c.loop-stand.shown.items c.loop-stand.shifts.items _ i c.requires.few c.loop-stand-test.true p c.loop-stand.invariant in
    let within = IsBoxWithin-wider max_place max_box s.place (omega arith) (c.requires.placeable i no_stand c.loop-stand-test.true).within in
    rw (to_z-of_z w64 c.least_shift-shift.result f) (c.least_shift-shift.ensures.within max_box within (rw c.as_slice-in-loop-stand.ensures.value near))

pub loop-stand-preserved : goal.loop-stand-preserved
loop-stand-preserved c =
    let i = c.loop-stand.stand-index in
    let s = get_or c.args.list.now i no_stand in
    let f : SFits w64 c.least_shift-shift.result = search rules in
    let p = sorted_are c.args.list.now c.loop-stand.shown.items _ _ _ _ i c.drop_ended.ensures c.as_slice.ensures.value c.in_ok-boxes_of.ensures c.sort_along.ensures in
    rw (c.in_ok-push-2.ensures.items, c.drop_ended.ensures, c.moved_stand.ensures, c.in_ok-push.ensures.items, to_z-of_z w64 c.least_shift-shift.result f)
    (Replayed-more c.args.list.now c.loop-stand.shown.items c.loop-stand.shifts.items c.least_shift-shift.result _ i s c.requires.few c.requires.in_order c.requires.placeable c.loop-stand-test.true (get_or_default c.args.list.now i no_stand s c.loop-stand-test.true) p (rw c.as_slice-in-loop-stand.ensures.value at c.least_shift-shift.ensures.least) c.loop-stand.invariant)

pub returns-clause-moved : goal.returns-clause-moved
returns-clause-moved c = all_moved c.args.list.now c.loop-stand.shown.items c.loop-stand.shifts.items c.loop-stand.stand-index c.requires.few (omega arith) c.loop-stand.invariant
