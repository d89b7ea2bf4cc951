use Rattle.std.proofs.Common.{◌==◌}
use Rattle.flight_cache.specs.Shards.{GivesBack}
use Rattle.cache_bench.specs.Doubled.{doubled}
use Rattle.cache_bench.proofs.visits.visit_round.Given as goal

abbrev pub invariant-loop-key : goal.invariant-loop-key
invariant-loop-key g l = GivesBack (◌==◌) doubled l.cache l.fn.pass l.waiting
