use Rattle.std.proofs.Common.{◌≡◌, map, take}
use Rattle.player.specs.Changes.{plain_place}
use Rattle.player.proofs.changes.have_same_places.Given as goal

abbrev pub invariant-loop-i : goal.invariant-loop-i
invariant-loop-i l = map plain_place (take l.i l.a) ≡ map plain_place (take l.i l.b)
