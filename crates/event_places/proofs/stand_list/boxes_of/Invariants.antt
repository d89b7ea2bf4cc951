use Rattle.std.proofs.Common.{◌≡◌, take}
use Rattle.event_places.specs.Placement.{boxes_of}
use Rattle.event_places.proofs.stand_list.boxes_of.Given as goal

abbrev pub invariant-loop-stand : goal.invariant-loop-stand
invariant-loop-stand l = l.boxes.items ≡ boxes_of (take l.stand-index l.stands)
