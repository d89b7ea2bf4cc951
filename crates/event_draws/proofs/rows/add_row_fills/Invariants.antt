use Rattle.std.proofs.Common.{◌≡◌, ◌++◌, flat_map, take}
use Rattle.event_draws.specs.Draws.{run_fill}
use Rattle.event_draws.proofs.rows.add_row_fills.Given as goal

abbrev pub invariant-loop-run : goal.invariant-loop-run
invariant-loop-run l = l.draws ≡ l.initial.draws ++ flat_map (run_fill l.stage l.clip l.boxed) (take l.run-index l.run-items)
