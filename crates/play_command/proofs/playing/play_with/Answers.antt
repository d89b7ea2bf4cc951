use Rattle.std.proofs.Common.{arith, rules, subst, sym}
use Rattle.play_model.specs.Plays.{IsPlayable, PlayView}
use Rattle.play_rounds.specs.Outputs.{IsPlayed}
use Rattle.play_rounds.proofs.Whole.{play_refused}
use Rattle.play_command.proofs.ReadLemmas.{view_same}
use Rattle.play_command.proofs.playing.play_with.Goals as goal

pub play-requires : goal.play-requires
play-requires g c =
    let playable = subst IsPlayable (sym (view_same c.args.job c.args.inputs _ _ c.in-Ok.ensures.script c.in-Ok.ensures.fonts)) c.requires in
    search (rules, playable)

pub returns-in-Ok : goal.returns-in-Ok
returns-in-Ok g c =
    subst (λ (v : PlayView). IsPlayed v c.play.result (g.F.Sink.state c.args.frames.now) (g.F.Sink.state c.play.new.frames)) (view_same c.args.job c.args.inputs _ _ c.in-Ok.ensures.script c.in-Ok.ensures.fonts) c.play.ensures.played

pub returns-in-Err : goal.returns-in-Err
returns-in-Err g c =
    let some = c.requires.job.times.0 in
    play_refused _ (g.F.Sink.state c.args.frames.now) (omega (arith, some))
