use Rattle.world_core.proofs.Standing.{keeps-laws}
use Rattle.world_core.proofs.world.World.proof_laws.Goals as goal

pub returns : goal.returns
returns c = keeps-laws c.args.self.now.caches c.proof_histories.ensures
