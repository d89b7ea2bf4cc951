use Rattle.std.proofs.Common.{◌*◌, ◌≤◌, ℕ, arith, length}
use Rattle.std.proofs.lemmas.Result.{IfErr-weaker, IfOk-weaker}
use Rattle.track_history.specs.Calls.{history_of}
use Rattle.play_workers.specs.Asks.{masks_seen}
use Rattle.play_workers.specs.Limits.{max_rounds}
use Rattle.play_workers.specs.Stages.{play_on}
use Rattle.play_rounds.proofs.TimesOn.{lines_are, live_stop, live_time}
use Rattle.play_rounds.proofs.times.play_once.Goals as goal

pub returns-in-Live-clause-few : goal.returns-in-Live-clause-few
returns-in-Live-clause-few g c = IfOk-weaker c.play_shift.result.1 (λ (more : ℕ). more ≤ max_rounds * 4294967295) (λ (more : ℕ). more ≤ 2 * (max_rounds * 4294967295)) (λ more few. omega (arith, few)) c.play_shift.ensures.few

pub returns-in-Live-clause-played : goal.returns-in-Live-clause-played
returns-in-Live-clause-played g c =
    let stage = c.args.stage.now in let old = c.args.frames.now in let new = c.play_shift.new.frames in
    let state = g.F.Sink.state in let seen = masks_seen stage.renderer in
    IfOk-weaker c.play_shift.result.1 _ _
    (λ more plays. live_time (state old) (state new) (state new) (seen c.args.first) (seen c.play_shift.result.0) (seen c.play_shift.result.0) (play_on stage) c.requires.stage.playable (length stage.good) (lines_are stage c.requires.stage)
    (history_of c.args.first.track.seen) (history_of c.play_shift.result.0.track.seen) more c.in-Live.is plays)
    c.play_shift.ensures.played

pub returns-in-Live-clause-stopped : goal.returns-in-Live-clause-stopped
returns-in-Live-clause-stopped g c =
    let stage = c.args.stage.now in let old = c.args.frames.now in let new = c.play_shift.new.frames in
    let state = g.F.Sink.state in let seen = masks_seen stage.renderer in
    IfErr-weaker c.play_shift.result.1 _ _
    (λ s stops. live_stop (state old) (state new) (state new) (seen c.args.first) (seen c.play_shift.result.0) (seen c.play_shift.result.0) (play_on stage) c.requires.stage.playable (length stage.good) (lines_are stage c.requires.stage)
    s (history_of c.args.first.track.seen) c.in-Live.is stops)
    c.play_shift.ensures.stopped
