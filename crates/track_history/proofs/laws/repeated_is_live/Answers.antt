use Rattle.track_history.proofs.Repeats.{repeated_entry}
use Rattle.track_history.proofs.laws.repeated_is_live.Goals as goal

pub returns : goal.returns
returns c = repeated_entry
