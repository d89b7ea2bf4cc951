use Rattle.draw_laws.proofs.Transparent.{faded_transparent}
use Rattle.draw_laws.proofs.laws.faded_events_are_transparent.Goals as goal

pub returns : goal.returns
returns c = faded_transparent
