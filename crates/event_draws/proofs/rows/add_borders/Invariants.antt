use Rattle.std.proofs.Common.{◌≡◌, ◌++◌, flat_map, take}
use Rattle.event_draws.specs.EventDraws.{row_borders}
use Rattle.event_draws.proofs.rows.add_borders.Given as goal

abbrev pub invariant-loop-row : goal.invariant-loop-row
invariant-loop-row l = l.draws ≡ l.initial.draws ++ flat_map (row_borders l.stage l.clip) (take l.row-index l.rows)
