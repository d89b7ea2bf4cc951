use Rattle.std.specs.List.{All}
use Rattle.world_core.specs.Tellings.{IsValidStep}
use Rattle.world_vectors.specs.Given.{fonts_in}
use Rattle.world_vectors.proofs.moves.steps_of.Given as goal

abbrev pub invariant-loop-actor : goal.invariant-loop-actor
invariant-loop-actor l = All (IsValidStep (fonts_in l.inputs)) l.steps.items
