use Rattle.std.proofs.Common.{◌≡◌, ◌++◌, map}
use Rattle.std.specs.List.{All, range_with_len}
use Rattle.play_rounds.specs.Rounds.{worker_roles}
use Rattle.play_workers.specs.Parts.{HasNoPass}
use Rattle.play_workers.specs.declared.worker.Role.TheVariants.{Feeder}
use Rattle.play_rounds.proofs.shift.hire_feeders.Given as goal

abbrev pub invariant-loop-feeder : goal.invariant-loop-feeder
invariant-loop-feeder l = record {
  idle : All HasNoPass l.workers.items;
  roles : worker_roles l.workers.items ≡ worker_roles l.fn.workers.items ++ map Feeder (range_with_len 0 l.feeder);
}
