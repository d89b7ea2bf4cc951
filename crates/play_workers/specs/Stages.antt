-- Public: what all workers of a play share.
use Rattle.std.specs.Prelude.{◌≡◌}
use Rattle.std.specs.Arc.{arc_value}
use Rattle.play_model.specs.Plays.{IsPlayable, PlayView, good_flags}
use Rattle.play_workers.specs.declared.stage.PlayStage.{PlayStage}

-- what is played on a stage
abbrev pub play_on : PlayStage → PlayView
play_on stage = record { job = stage.job; script = arc_value stage.script; fonts = stage.renderer.fonts }

-- Everything is within its limits, the renderer has the script, and of each line it is known whether it gives an event.
pub record IsPlayStage (stage : PlayStage) : Type 0 where
  pub playable : IsPlayable (play_on stage)
  pub same_script : stage.renderer.script ≡ arc_value stage.script
  pub good : stage.good ≡ good_flags (arc_value stage.script)
