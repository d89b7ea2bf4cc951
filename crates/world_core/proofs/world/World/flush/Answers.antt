use Rattle.std.proofs.Common.{◌≡◌, List, Ok, ap}
use Rattle.ass_events.specs.Histories.{Entry, flushed}
use Rattle.track_history.specs.Answers.{flush_answer}
use Rattle.world_core.specs.declared.steps.Reply.{Reply}
use Rattle.world_core.specs.declared.steps.Reply.TheVariants.{Flushed}
use Rattle.world_core.proofs.Telling.{made-track}
use Rattle.world_core.proofs.world.World.flush.Goals as goal

pub flush-requires : goal.flush-requires
flush-requires c = c.requires.1.sound

pub returns : goal.returns
returns c =
    made-track c.args.self.now c.flush.new.track flushed (λ (history : List Entry) (r : Reply). r ≡ Flushed (flush_answer history)) (Ok (Flushed c.flush.result)) c.flush.ensures.sound (λ history t. tt) c.flush.ensures.history
    (λ history t. ap Flushed (c.flush.ensures.answer history t))
