use Rattle.std.proofs.Common.{refl}
use Rattle.play_rounds.specs.Rounds.{worker_roles}
use Rattle.play_workers.specs.declared.worker.Role.TheVariants.{Painter}
use Rattle.play_rounds.proofs.Crews.{hired_more, hired_none}
use Rattle.play_rounds.proofs.shift.hire_painters.Goals as goal

pub loop-painter-init : goal.loop-painter-init
loop-painter-init c = record { idle = c.requires.idle; roles = hired_none Painter (worker_roles c.args.workers.items) (worker_roles c.args.workers.items) refl }

pub loop-painter-preserved : goal.loop-painter-preserved
loop-painter-preserved c = record {
  idle = c.in_ok-workers.ensures.idle;
  roles = hired_more Painter (worker_roles c.args.workers.items) c.loop-painter.painter (worker_roles c.loop-painter.workers.items) _ c.loop-painter.invariant.roles c.in_ok-workers.ensures.roles;
}
