use Rattle.std.proofs.Common.{◌≡◌, ◌≤◌, take}
use Rattle.evict_core.specs.History.{times_named}
use Rattle.flight_cache.proofs.holds.places.Given as goal

abbrev pub invariant-loop-i : goal.invariant-loop-i
invariant-loop-i g l = (l.places ≡ times_named g.K.PartialEq.eq l.key (take l.i l.keys.items)) × (l.places ≤ l.i)
