use Rattle.std.proofs.Common.{map, refl, ap, ◌∙◌, arith}
use Rattle.std.specs.Arc.{arc_value}
use Rattle.track_history.proofs.Histories.{tells_flushed}
use Rattle.track_history.proofs.Soundness.{sound_swapped}
use Rattle.track_history.proofs.live_events.LiveEvents.flush_into.Goals as goal

pub returns-clause-sound : goal.returns-clause-sound
returns-clause-sound c =
    sound_swapped c.args.self.now c.args.dropped.now _ c.requires.sound (omega (arith, c.if-self-ge-MAX_FLUSHES.false)) c.requires.empty.0 c.requires.empty.1 c.swap.ensures.x_after c.swap-2.ensures.x_after c.swap-3.ensures.x_after refl refl

pub returns-clause-history : goal.returns-clause-history
returns-clause-history c = λ history tells.
    tells_flushed c.args.self.now _ history tells (omega (arith, c.if-self-ge-MAX_FLUSHES.false)) (ap (λ v. map arc_value v.items) c.swap.ensures.x_after ∙ c.requires.empty.1) refl refl

pub returns-clause-dropped : goal.returns-clause-dropped
returns-clause-dropped c = λ place is. ap (λ v. map arc_value v.items) c.swap.ensures.y_after
