use Rattle.std.proofs.Common.{◌≡◌, ℕ, ◌+◌, ◌≤◌, ◌++◌, length, map, reverse, take, vec_len}
use Rattle.std.specs.Arc.{arc_value}
use Rattle.std.specs.Vec.{vec_capacity}
use Rattle.flight_cache.specs.Calls.{PinView}
use Rattle.flight_cache.specs.Shards.{at}
use Rattle.flight_cache.proofs.pinning.pins_with.Given as goal

abbrev pub invariant-loop-key : goal.invariant-loop-key
invariant-loop-key g l = record {
  keys : l.keys.items ++ map (λ (p : PinView g.row.M-Key.Denot g.row.M-Value.Denot). p.key) (reverse l.pins.items) ≡ l.fn.keys.items;
  values : map arc_value l.values.items ++ map (λ (p : PinView g.row.M-Key.Denot g.row.M-Value.Denot). p.value) (reverse l.pins.items) ≡ map arc_value l.fn.values.items;
  cells : map (λ (n : ℕ). (at l.pass n).cell) (take (length l.keys.items) l.shards.items) ++ map (λ (p : PinView g.row.M-Key.Denot g.row.M-Value.Denot). p.cell) (reverse l.pins.items) ≡ map (λ (n : ℕ). (at l.pass n).cell) l.shards.items;
  many : length l.values.items ≡ length l.keys.items;
  room : length l.keys.items + vec_len l.pins ≤ vec_capacity l.pins;
}

abbrev pub decreases-loop-key : goal.decreases-loop-key
decreases-loop-key g l = vec_len l.keys
