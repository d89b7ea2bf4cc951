-- Public: what workers are there for.
use Rattle.std.specs.Prelude.{◌<◌}
use Rattle.run_words.specs.declared.job.PlayJob.{PlayJob}
use Rattle.play_shares.specs.Renderers.{painter_count}
use Rattle.play_workers.specs.declared.worker.Role.{Role}
use Rattle.play_workers.specs.declared.worker.Role.TheVariants.{Feeder, Painter, Warmer}

-- the role is one of the job's
abbrev pub IsRoleOf : PlayJob → Role → Type 0
IsRoleOf job (Feeder f) = f < job.feeders
IsRoleOf job (Painter p) = p < painter_count job
IsRoleOf job Warmer = Unit {0}
