use Rattle.std.proofs.Common.{refl}
use Rattle.play_rounds.specs.Rounds.{worker_roles}
use Rattle.play_workers.specs.declared.worker.Role.TheVariants.{Feeder}
use Rattle.play_rounds.proofs.Crews.{hired_more, hired_none}
use Rattle.play_rounds.proofs.shift.hire_feeders.Goals as goal

pub loop-feeder-init : goal.loop-feeder-init
loop-feeder-init c = record { idle = c.requires.idle; roles = hired_none Feeder (worker_roles c.args.workers.items) (worker_roles c.args.workers.items) refl }

pub loop-feeder-preserved : goal.loop-feeder-preserved
loop-feeder-preserved c = record {
  idle = c.in_ok-workers.ensures.idle;
  roles = hired_more Feeder (worker_roles c.args.workers.items) c.loop-feeder.feeder (worker_roles c.loop-feeder.workers.items) _ c.loop-feeder.invariant.roles c.in_ok-workers.ensures.roles;
}
