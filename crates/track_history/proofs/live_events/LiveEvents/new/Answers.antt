use Rattle.std.proofs.Common.{map, refl, ap}
use Rattle.std.specs.Arc.{arc_value}
use Rattle.track_history.proofs.Histories.{tells_nothing}
use Rattle.track_history.proofs.live_events.LiveEvents.new.Goals as goal

pub returns-clause-history : goal.returns-clause-history
returns-clause-history c = tells_nothing _ (ap (λ xs. map arc_value xs) c.new.ensures.items) refl refl
