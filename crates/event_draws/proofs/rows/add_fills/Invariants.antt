use Rattle.std.proofs.Common.{◌≡◌, ◌++◌, flat_map, take}
use Rattle.event_draws.specs.EventDraws.{row_fills}
use Rattle.event_draws.proofs.rows.add_fills.Given as goal

abbrev pub invariant-loop-row : goal.invariant-loop-row
invariant-loop-row l = l.draws ≡ l.initial.draws ++ flat_map (row_fills l.stage l.clip) (take l.row-index l.rows)
