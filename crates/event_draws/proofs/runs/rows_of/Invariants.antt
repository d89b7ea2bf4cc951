use Rattle.std.proofs.Common.{◌≡◌, ◌≤◌, length, take, drop}
use Rattle.std.specs.List.{All}
use Rattle.event_draws.specs.EventDraws.{FollowLines, IsDrawnRow, rows_made}
use Rattle.event_draws.proofs.runs.rows_of.Given as goal

abbrev pub invariant-loop-line : goal.invariant-loop-line
invariant-loop-line l = record {
  most : l.from ≤ length l.laid.placed;
  follow : FollowLines l.laid (drop l.line-index l.laid.lines) (drop l.from l.laid.placed);
  value : l.rows ≡ rows_made l.stage l.fonts.fonts l.view l.laid (take l.line-index l.laid.lines);
  range : All IsDrawnRow l.rows;
}
