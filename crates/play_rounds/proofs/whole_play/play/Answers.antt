use Rattle.std.proofs.Common.{arith, subst, sym}
use Rattle.std.specs.Arc.{arc_value}
use Rattle.std.proofs.lemmas.Result.{IfErr-at_err, IfOk-at_ok}
use Rattle.renderer.specs.Passes.{IsNewRenderer}
use Rattle.play_model.specs.Plays.{PlayView}
use Rattle.play_workers.specs.Asks.{masks_seen}
use Rattle.play_workers.specs.Stages.{play_on}
use Rattle.track_history.specs.Calls.{history_of}
use Rattle.play_rounds.specs.Outputs.{AreImagesWritten, IsPlayed, IsStopped}
use Rattle.play_rounds.specs.Times.{HavePlayed}
use Rattle.play_rounds.proofs.Whole.{play_ends, play_refused, play_view}
use Rattle.play_rounds.proofs.whole_play.play.Goals as goal

pub returns-in-Err : goal.returns-in-Err
returns-in-Err g c =
    let frames = c.args.frames.now in let some = c.requires.playable.job.times.0 in
    record { played = play_refused (play_view c.args.job (arc_value c.args.script) (arc_value c.args.fonts).fonts) (g.F.Sink.state frames) (omega (arith, some)) }

pub returns : goal.returns
returns g c =
    let stage = c.in-Ok.set.0 in let old = c.args.frames.now in let new = c.all_times-first.new.frames in
    let state = g.F.Sink.state in let seen = masks_seen stage.renderer in
    let opened : IsNewRenderer stage.renderer c.in-Ok.set.1 stage.job.budget =
    subst (λ (play : PlayView). IsNewRenderer stage.renderer c.in-Ok.set.1 play.job.budget) (sym c.in-Ok.ensures.play) c.in-Ok.ensures.opened in
    record {
      played = subst (λ (play : PlayView). IsPlayed play c.end_of-end.result (state old) (state new)) c.in-Ok.ensures.play
          (play_ends (play_on stage) (history_of c.all_times-first.result.0.track.seen) (state old) (state new) (seen c.in-Ok.set.1) (seen c.all_times-first.result.0) stage.good c.in-Ok.ensures.stage.good
          c.last_totals-first.result.1 (λ asks few. c.last_totals-first.ensures.totals stage.job.budget asks c.in-Ok.set.1 opened few) c.all_times-first.result.1 c.end_of-end.result c.end_of-end.ensures
          (λ one is. IfOk-at_ok (λ one. HavePlayed (play_on stage) stage.job.times (history_of c.all_times-first.result.0.track.seen) one
          (λ images. AreImagesWritten images (state old) (state new) (seen c.in-Ok.set.1) (seen c.all_times-first.result.0))) is c.all_times-first.ensures.played)
          (λ s is. IfErr-at_err (λ s. IsStopped (play_on stage) s (state old) (state new)) is c.all_times-first.ensures.stopped));
    }
