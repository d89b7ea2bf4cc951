use Rattle.track_history.proofs.Histories.{live_short}
use Rattle.track_history.proofs.laws.live_is_short.Goals as goal

pub returns : goal.returns
returns c = live_short
