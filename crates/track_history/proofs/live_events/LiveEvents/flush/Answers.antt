use Rattle.std.proofs.Common.{map, refl, ap, arith}
use Rattle.std.specs.Arc.{arc_value}
use Rattle.track_history.proofs.Histories.{tells_flushed}
use Rattle.track_history.proofs.live_events.LiveEvents.flush.Goals as goal

pub returns-clause-history : goal.returns-clause-history
returns-clause-history c = λ history tells. tells_flushed c.args.self.now _ history tells (omega (arith, c.if-self-ge-MAX_FLUSHES.false)) (ap (λ xs. map arc_value xs) c.clear.ensures.items) refl refl
