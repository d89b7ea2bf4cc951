use Rattle.std.proofs.Common.{◌≡◌, take}
use Rattle.ass_num.specs.Limits.{IsWithin}
use Rattle.outline_points.specs.Limits.{max_length}
use Rattle.event_draws.specs.EventDraws.{right_end, sung_with}
use Rattle.event_draws.proofs.runs.sung_right.Given as goal

abbrev pub invariant-loop-placed : goal.invariant-loop-placed
invariant-loop-placed l = record {
  value : l.right ≡ right_end l.stage (sung_with l.view l.state (take l.placed-index l.items));
  within : IsWithin max_length l.right;
}
