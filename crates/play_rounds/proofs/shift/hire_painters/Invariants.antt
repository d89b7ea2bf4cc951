use Rattle.std.proofs.Common.{◌≡◌, ◌++◌, map}
use Rattle.std.specs.List.{All, range_with_len}
use Rattle.play_rounds.specs.Rounds.{worker_roles}
use Rattle.play_workers.specs.Parts.{HasNoPass}
use Rattle.play_workers.specs.declared.worker.Role.TheVariants.{Painter}
use Rattle.play_rounds.proofs.shift.hire_painters.Given as goal

abbrev pub invariant-loop-painter : goal.invariant-loop-painter
invariant-loop-painter l = record {
  idle : All HasNoPass l.workers.items;
  roles : worker_roles l.workers.items ≡ worker_roles l.fn.workers.items ++ map Painter (range_with_len 0 l.painter);
}
