use Rattle.std.proofs.Common.{◌≡◌, ◌++◌, flat_map, take}
use Rattle.event_draws.specs.EventDraws.{row_shadows}
use Rattle.event_draws.proofs.rows.add_shadows.Given as goal

abbrev pub invariant-loop-row : goal.invariant-loop-row
invariant-loop-row l = l.draws ≡ l.initial.draws ++ flat_map (row_shadows l.stage l.clip) (take l.row-index l.rows)
