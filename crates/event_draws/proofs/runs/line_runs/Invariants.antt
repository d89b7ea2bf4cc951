use Rattle.std.proofs.Common.{◌≡◌, ◌-◌, ◌≤◌, ◌++◌, length, drop}
use Rattle.std.specs.List.{All}
use Rattle.event_draws.specs.Draws.{IsDrawnRun}
use Rattle.event_draws.specs.EventDraws.{line_runs, runs_made}
use Rattle.event_draws.specs.Runs.{runs_of}
use Rattle.event_draws.proofs.runs.line_runs.Given as goal

abbrev pub invariant-loop-from : goal.invariant-loop-from
invariant-loop-from l = record {
  most : l.from ≤ length l.items;
  value : l.runs ++ runs_made l.stage l.fonts.fonts l.view l.line l.items (runs_of l.view (drop l.from l.items)) ≡ line_runs l.stage l.fonts.fonts l.view l.line l.items;
  range : All IsDrawnRun l.runs;
}

abbrev pub decreases-loop-from : goal.decreases-loop-from
decreases-loop-from l = length l.items - l.from
