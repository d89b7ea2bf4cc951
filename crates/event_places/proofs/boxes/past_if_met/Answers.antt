use Rattle.std.proofs.Common.{arith}
use Rattle.event_places.specs.Placement.{max_box, max_moved, max_place}
use Rattle.event_places.proofs.ShiftLemmas.{IsBoxWithin-wider}
use Rattle.event_places.proofs.boxes.past_if_met.Goals as goal

pub shift_past-requires-clause-within : goal.shift_past-requires-clause-within
shift_past-requires-clause-within c = IsBoxWithin-wider max_place max_box _ (omega arith) c.requires.stand.within

pub shift_past-requires-clause-other_within : goal.shift_past-requires-clause-other_within
shift_past-requires-clause-other_within c = IsBoxWithin-wider max_moved max_box _ (omega arith) c.requires.other
