use Rattle.std.proofs.Common.{◌≡◌, map, take}
use Rattle.std.specs.Arc.{arc_value}
use Rattle.flight_cache.proofs.cache.Cache.values.Given as goal

abbrev pub invariant-loop-i : goal.invariant-loop-i
invariant-loop-i g l = map arc_value l.values.items ≡ map (g.M.Made.meaning.made l.self.tag) (take l.i l.keys.items)
