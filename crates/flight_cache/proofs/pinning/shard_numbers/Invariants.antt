use Rattle.std.proofs.Common.{◌≡◌, take}
use Rattle.flight_cache.specs.Pinning.{shards_of}
use Rattle.flight_cache.proofs.pinning.shard_numbers.Given as goal

abbrev pub invariant-loop-key : goal.invariant-loop-key
invariant-loop-key g l = l.shards.items ≡ shards_of g.M.Made.meaning (take l.key-index l.key-items)
