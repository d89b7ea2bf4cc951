use Rattle.std.proofs.Common.{arith, rules, SFits, w64}
use Rattle.std.proofs.lemmas.Int.{ints, to_z-of_z}
use Rattle.event_places.specs.Placement.{max_box, max_place}
use Rattle.event_places.proofs.ShiftLemmas.{IsBoxWithin-wider}
use Rattle.event_places.proofs.boxes.moved.Goals as goal

pub moved-requires-clause-within : goal.moved-requires-clause-within
moved-requires-clause-within c = IsBoxWithin-wider max_place max_box _ (omega arith) c.requires.stand.within

pub moved-requires-clause-shift : goal.moved-requires-clause-shift
moved-requires-clause-shift c =
    let f : SFits w64 c.args.shift = search rules in
    let shift = c.requires.shift in
    let most = shift.bounded in
    rw (to_z-of_z w64 c.args.shift f) (record { from_zero = shift.from_zero; bounded = omega (arith, ints, most) })
