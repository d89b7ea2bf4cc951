use Rattle.std.proofs.Common.{◌≡◌, drop}
use Rattle.evict_core.specs.Machine.{HitsEach, hit_all}
use Rattle.flight_cache.specs.Pinning.{keys_in}
use Rattle.flight_cache.proofs.shard.Shard.pin_keys.Given as goal

abbrev pub invariant-loop-i : goal.invariant-loop-i
invariant-loop-i g l = record {
  ready : HitsEach g.M.Key.PartialEq.eq l.turn.value.entries (keys_in g.M.Made.meaning l.self (drop l.i l.keys.items));
  hits : hit_all g.M.Key.PartialEq.eq l.turn.value.entries (keys_in g.M.Made.meaning l.self (drop l.i l.keys.items)) ≡ hit_all g.M.Key.PartialEq.eq l.fn.turn.value.entries (keys_in g.M.Made.meaning l.self l.keys.items);
  rest : l.turn ≡ record l.fn.turn { value = l.turn.value };
}
