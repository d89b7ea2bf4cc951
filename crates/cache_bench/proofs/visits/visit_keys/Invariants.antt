use Rattle.std.proofs.Common.{◌==◌}
use Rattle.flight_cache.specs.Shards.{GivesBack}
use Rattle.cache_bench.specs.Doubled.{doubled}
use Rattle.cache_bench.proofs.visits.visit_keys.Given as goal

abbrev pub invariant-loop : goal.invariant-loop
invariant-loop g l = GivesBack (◌==◌) doubled l.cache l.fn.pass l.waiting
