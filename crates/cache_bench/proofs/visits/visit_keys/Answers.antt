use Rattle.cache_bench.proofs.visits.visit_keys.Goals as goal

pub visit_round-pass-requires : goal.visit_round-pass-requires
visit_round-pass-requires g c = record { cell = c.loop.invariant.cell; given = c.loop.invariant.given c.requires.given }
