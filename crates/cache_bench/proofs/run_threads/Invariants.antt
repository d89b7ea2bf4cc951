use Rattle.std.specs.Prelude.{IsSomeAnd}
use Rattle.cache_bench.specs.Doubled.{IsFreePass}
use Rattle.cache_bench.proofs.run_threads.Given as goal

abbrev pub invariant-loop : goal.invariant-loop
invariant-loop g l =
    IsSomeAnd l.one.pass (IsFreePass l.cache)
    × IsSomeAnd l.four.left.left.pass (IsFreePass l.cache) × IsSomeAnd l.four.left.right.pass (IsFreePass l.cache)
    × IsSomeAnd l.four.right.left.pass (IsFreePass l.cache) × IsSomeAnd l.four.right.right.pass (IsFreePass l.cache)
