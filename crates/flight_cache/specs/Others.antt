-- Inner: a cache's pass with one shard's pass out.
use Rattle.std.specs.Prelude.{◌==◌, if◌then◌else◌}
use Rattle.flight_cache.specs.Calls.{ShardPassView}
use Rattle.flight_cache.specs.Shards.{CachePassView}
use Rattle.flight_cache.specs.declared.pass.Others.{Others}

module _ {K T : Type 0} where
  -- the whole again, with this pass for the one that was out
  abbrev pub together : {M V : Type 0} → Others M K V T → ShardPassView K T → CachePassView K T
  together others own = if others.out == 0 then record { first = own; second = others.one; third = others.two; fourth = others.three } else (
      if others.out == 1 then record { first = others.one; second = own; third = others.two; fourth = others.three } else (
      if others.out == 2 then record { first = others.one; second = others.two; third = own; fourth = others.three } else
      record { first = others.one; second = others.two; third = others.three; fourth = own }))
