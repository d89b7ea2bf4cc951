use Rattle.world_core.specs.Keys.{world_meaning}
use Rattle.world_core.proofs.Recording.{steps-are-recorded}
use Rattle.world_core.proofs.laws.records.Goals as goal

pub returns : goal.returns
returns c = steps-are-recorded world_meaning
