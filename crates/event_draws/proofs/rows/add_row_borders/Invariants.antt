use Rattle.std.proofs.Common.{◌≡◌, ◌++◌, flat_map, take, false}
use Rattle.event_draws.specs.Draws.{run_border}
use Rattle.event_draws.proofs.rows.add_row_borders.Given as goal

abbrev pub invariant-loop-run : goal.invariant-loop-run
invariant-loop-run l = l.draws ≡ l.initial.draws ++ flat_map (run_border l.stage l.clip false) (take l.run-index l.run-items)
