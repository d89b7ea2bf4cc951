use Rattle.evict_core.proofs.TrimLemmas.{trims-least}
use Rattle.evict_core.proofs.laws.trims.Goals as goal

pub returns : goal.returns
returns g c = trims-least
