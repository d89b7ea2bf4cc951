use Rattle.track_history.proofs.LawLemmas.{near_once}
use Rattle.track_history.proofs.laws.one_near.Goals as goal

pub returns : goal.returns
returns c = near_once
