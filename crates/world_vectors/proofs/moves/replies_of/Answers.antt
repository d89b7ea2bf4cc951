use Rattle.world_core.specs.States.{opening_world}
use Rattle.world_vectors.proofs.moves.replies_of.Goals as goal

pub run-requires-clause-told : goal.run-requires-clause-told
run-requires-clause-told c = (opening_world c.in_ok-fonts.fonts c.args.budget, c.in_ok-world.ensures.state)
