use Rattle.std.proofs.Common.{ap, subst, sym, ◌∙◌}
use Rattle.std.specs.Arc.{arc_value}
use Rattle.play_model.specs.Plays.{IsPlayable, good_flags}
use Rattle.play_rounds.proofs.Turns.{home_new}
use Rattle.track_history.specs.Calls.{TrackView, history_of}
use Rattle.play_rounds.proofs.Whole.{same_play}
use Rattle.play_rounds.proofs.whole_play.set_stage.Goals as goal

pub returns-clause-play : goal.returns-clause-play
returns-clause-play c = same_play c.args.job (arc_value c.args.script) _ _ c.in_ok-renderer.ensures.fonts

pub returns-clause-stage : goal.returns-clause-stage
returns-clause-stage c = record {
  playable = subst IsPlayable (sym (same_play c.args.job (arc_value c.args.script) _ _ c.in_ok-renderer.ensures.fonts)) c.requires;
  same_script = c.in_ok-renderer.ensures.script ∙ c.in_ok-shared.ensures;
  good = c.in_ok-good.ensures ∙ ap good_flags c.deref.ensures;
}

pub returns-clause-home : goal.returns-clause-home
returns-clause-home c = home_new c.in_ok-renderer.renderer c.in_ok-renderer.first _ c.in_ok-renderer.ensures.new

pub returns-clause-new : goal.returns-clause-new
returns-clause-new c = ap (λ (p : TrackView). history_of p.seen) c.in_ok-renderer.ensures.new.track

pub returns-clause-next : goal.returns-clause-next
returns-clause-next c = ap (λ (p : TrackView). p.next) c.in_ok-renderer.ensures.new.track

pub returns-clause-opened : goal.returns-clause-opened
returns-clause-opened c = c.in_ok-renderer.ensures.new
