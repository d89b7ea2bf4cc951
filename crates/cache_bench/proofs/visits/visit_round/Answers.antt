use Rattle.cache_bench.proofs.visits.visit_round.Goals as goal

pub visit-pass-requires : goal.visit-pass-requires
visit-pass-requires g c = record { cell = c.loop-key.invariant.cell; given = c.loop-key.invariant.given c.requires.given }
