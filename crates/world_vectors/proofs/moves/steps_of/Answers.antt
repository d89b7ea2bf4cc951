use Rattle.std.proofs.Common.{subst, sym}
use Rattle.std.specs.List.{All}
use Rattle.std.proofs.lemmas.List.Elements.{All-push}
use Rattle.world_core.specs.Tellings.{IsValidStep}
use Rattle.world_vectors.specs.Given.{fonts_in}
use Rattle.world_vectors.proofs.moves.steps_of.Goals as goal

pub loop-actor-preserved : goal.loop-actor-preserved
loop-actor-preserved c =
    subst (All (IsValidStep (fonts_in c.args.inputs.now))) (sym c.in_ok-push.ensures.items)
    (All-push (IsValidStep (fonts_in c.args.inputs.now)) c.loop-actor.steps.items c.in_ok-step_of.field-0 c.loop-actor.invariant c.in_ok-step_of.ensures)
