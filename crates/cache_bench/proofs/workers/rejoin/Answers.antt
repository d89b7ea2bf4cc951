use Rattle.flight_cache.proofs.Visits.{join-stays}
use Rattle.cache_bench.proofs.workers.rejoin.Goals as goal

pub returns-clause-cell : goal.returns-clause-cell
returns-clause-cell c = join-stays c.args.cache.now c.args.pass c.requires.cell c.in-Some.other c.join.result c.join.ensures.pass
