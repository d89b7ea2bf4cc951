-- Inner: what a step makes of a world.
use Rattle.std.specs.Prelude.{◌≡◌, Result, IfOk, OnErr}
use Rattle.std.specs.Arc.{arc_value}
use Rattle.ass_num.specs.declared.memory.OutOfMemory.{OutOfMemory}
use Rattle.world_core.specs.Keys.{world_meaning}
use Rattle.world_core.specs.Replies.{IsReply}
use Rattle.world_core.specs.States.{WorldState}
use Rattle.world_core.specs.Steps.{after_step}
use Rattle.world_core.specs.Tellings.{TellsWorld, WorldTag}
use Rattle.world_core.specs.declared.steps.Reply.{Reply}
use Rattle.world_core.specs.declared.steps.Step.{Step}
use Rattle.world_core.specs.declared.world.World.{World}

-- Whichever state the world tells, it tells the one after it then, and the reply is an answer in it. Want of memory changes nothing
pub record IsMadeBy (after : WorldState WorldTag → WorldState WorldTag) (IsAnswer : WorldState WorldTag → Reply → Type 0) (old new : World) (result : Result Reply OutOfMemory) : Type 0 where
  pub script : new.script ≡ old.script
  pub fonts : new.fonts ≡ old.fonts
  pub ok : (s : WorldState WorldTag) → TellsWorld old s → IfOk result (λ r. TellsWorld new (after s) × IsAnswer s r)
  pub err : (s : WorldState WorldTag) → TellsWorld old s → OnErr result (TellsWorld new s)

-- so it is with what a step makes of a state, and what it is answered
abbrev pub IsMade : World → Step → World → Result Reply OutOfMemory → Type 0
IsMade old step new result =
    IsMadeBy (λ s. after_step world_meaning s step) (λ s r. IsReply (arc_value old.script) (arc_value old.fonts).fonts s step r) old new result
