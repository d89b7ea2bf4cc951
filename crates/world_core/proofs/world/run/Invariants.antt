use Rattle.std.proofs.Common.{◌≡◌, ◌≤◌, ℕ, take}
use Rattle.std.specs.Arc.{arc_value}
use Rattle.world_core.specs.Keys.{world_meaning}
use Rattle.world_core.specs.Laws.{KeepsLawsFor}
use Rattle.world_core.specs.Replies.{AreReplies}
use Rattle.world_core.specs.States.{WorldState}
use Rattle.world_core.specs.Steps.{after_steps}
use Rattle.world_core.specs.Tellings.{TellsWorld, WorldTag}
use Rattle.world_core.proofs.world.run.Given as goal

abbrev pub invariant-loop-step : goal.invariant-loop-step
invariant-loop-step l = record {
  script : l.world.script ≡ l.fn.world.script;
  fonts : l.world.fonts ≡ l.fn.world.fonts;
  tells : (s : WorldState WorldTag) → TellsWorld l.fn.world s → TellsWorld l.world (after_steps world_meaning s (take l.step-index l.steps));
  replies : (s : WorldState WorldTag) → TellsWorld l.fn.world s
      → AreReplies (arc_value l.fn.world.script) (arc_value l.fn.world.fonts).fonts world_meaning s (take l.step-index l.steps) l.replies.items;
  laws : (s : WorldState WorldTag) → TellsWorld l.fn.world s → (k : ℕ) → k ≤ l.step-index → KeepsLawsFor world_meaning s l.steps k;
}
