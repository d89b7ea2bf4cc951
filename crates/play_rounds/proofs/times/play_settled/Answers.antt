use Rattle.std.proofs.Common.{length}
use Rattle.track_history.specs.Calls.{history_of}
use Rattle.play_workers.specs.Asks.{masks_seen}
use Rattle.play_workers.specs.Stages.{play_on}
use Rattle.play_rounds.proofs.TimesOn.{feed_stop, lines_are, paint_stop, settled_time}
use Rattle.play_rounds.proofs.times.play_settled.Goals as goal

pub returns-in-Err-clause-stopped : goal.returns-in-Err-clause-stopped
returns-in-Err-clause-stopped g c =
    let stage = c.args.stage.now in let old = c.args.frames.now in let new = c.play_shift-first.new.frames in
    let state = g.F.Sink.state in let seen = masks_seen stage.renderer in
    feed_stop (state old) (state new) (state new) (seen c.args.first) (seen c.play_shift-first.result.0) (seen c.play_shift-first.result.0) (play_on stage) c.requires.stage.playable (length stage.good) (lines_are stage c.requires.stage)
    c.in-Err.stop (history_of c.args.first.track.seen) c.requires.mode (rw c.in-Err.is at c.play_shift-first.ensures.stopped)

pub returns-in-Err-painted-clause-stopped : goal.returns-in-Err-painted-clause-stopped
returns-in-Err-painted-clause-stopped g c =
    let stage = c.args.stage.now in let old = c.args.frames.now in let mid = c.play_shift-first.new.frames in let new = c.play_shift-after.new.frames in
    let state = g.F.Sink.state in let seen = masks_seen stage.renderer in
    paint_stop (state old) (state mid) (state new) (seen c.args.first) (seen c.play_shift-first.result.0) (seen c.play_shift-after.result.0) (play_on stage) c.requires.stage.playable (length stage.good) (lines_are stage c.requires.stage)
    (history_of c.args.first.track.seen) (history_of c.play_shift-first.result.0.track.seen) c.in-Ok.repeated c.requires.mode (rw c.in-Ok.is at c.play_shift-first.ensures.played)
    c.in-Err-painted.stop (rw c.in-Err-painted.is at c.play_shift-after.ensures.stopped)

pub returns-in-Ok-painted-clause-played : goal.returns-in-Ok-painted-clause-played
returns-in-Ok-painted-clause-played g c =
    let stage = c.args.stage.now in let old = c.args.frames.now in let mid = c.play_shift-first.new.frames in let new = c.play_shift-after.new.frames in
    let state = g.F.Sink.state in let seen = masks_seen stage.renderer in
    settled_time (state old) (state mid) (state new) (seen c.args.first) (seen c.play_shift-first.result.0) (seen c.play_shift-after.result.0) (play_on stage) c.requires.stage.playable (length stage.good) (lines_are stage c.requires.stage)
    (history_of c.args.first.track.seen) (history_of c.play_shift-first.result.0.track.seen) c.in-Ok.repeated c.requires.mode (rw c.in-Ok.is at c.play_shift-first.ensures.played)
    (history_of c.play_shift-after.result.0.track.seen) c.in-Ok-painted.more (rw c.in-Ok-painted.is at c.play_shift-after.ensures.played)
