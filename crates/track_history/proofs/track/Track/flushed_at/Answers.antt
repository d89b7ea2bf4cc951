use Rattle.std.proofs.Common.{sym, ap, subst, ◌∙◌}
use Rattle.track_history.specs.declared.live_events.LiveEvents.{LiveEvents}
use Rattle.track_history.specs.Answers.{extended}
use Rattle.track_history.specs.Tellings.{Tells}
use Rattle.track_history.specs.Calls.{history_of}
use Rattle.track_history.proofs.Turns.{flushed_turn, history_of-with_entry}
use Rattle.track_history.proofs.track.Track.flushed_at.Goals as goal

pub give-pass-requires-clause-value : goal.give-pass-requires-clause-value
give-pass-requires-clause-value c =
    let turn = c.args.turn in let history = history_of turn.list in
    let tells : Tells c.value_mut.result.now history = subst (λ (k : LiveEvents). Tells k history) (sym c.value_mut.ensures.value) c.requires.turn.turn_of.value.tells in
    record {
      sound = c.flush_into-answer.ensures.sound;
      tells = subst (Tells c.flush_into-answer.new.self) (sym (history_of-with_entry turn.list turn.pass.number c.entry.result ∙ ap (extended history) c.entry.ensures)) (c.flush_into-answer.ensures.history history tells);
    }

pub returns : goal.returns
returns c =
    let turn = c.args.turn in let taken = c.requires.turn in let told = c.flush_into-answer.ensures in let history = history_of turn.list in
    let tells : Tells c.value_mut.result.now history = subst (λ (k : LiveEvents). Tells k history) (sym c.value_mut.ensures.value) taken.turn_of.value.tells in
    flushed_turn _ _ c.args.before.value turn c.give-pass.result c.entry.result taken c.give-pass.ensures c.flush_into-answer.result c.entry.ensures (told.history history tells).legal (told.history history tells).short (told.answer history tells)

pub flush_into-answer-requires-clause-empty : goal.flush_into-answer-requires-clause-empty
flush_into-answer-requires-clause-empty c = (c.new-dropped.ensures.sound, c.new-dropped.ensures.history.events)
