use Rattle.std.proofs.Common.{◌≡◌, map, take}
use Rattle.event_draws.specs.Draws.{part_from}
use Rattle.event_draws.proofs.draws.parts_from.Given as goal

abbrev pub invariant-loop-stamp : goal.invariant-loop-stamp
invariant-loop-stamp l = l.parts ≡ map (part_from l.making l.place) (take l.stamp-index l.stamps)
