use Rattle.std.proofs.Common.{take}
use Rattle.flight_cache.specs.Holds.{CanPinAll}
use Rattle.flight_cache.proofs.cache.Cache.refusal.Given as goal

abbrev pub invariant-loop-i : goal.invariant-loop-i
invariant-loop-i g l = CanPinAll g.M.Key.PartialEq.eq g.M.Made.meaning l.self (take l.i l.keys.items) l.holds
