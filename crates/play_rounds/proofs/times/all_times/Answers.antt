use Rattle.std.proofs.Common.{◌≡◌, ℕ, List, arith, refl, subst}
use Rattle.track_history.specs.Calls.{history_of}
use Rattle.play_model.specs.Images.{ShownImage}
use Rattle.play_workers.specs.Asks.{masks_seen}
use Rattle.play_workers.specs.Stages.{play_on}
use Rattle.play_rounds.specs.Outputs.{AreImagesWritten}
use Rattle.play_rounds.specs.Times.{HavePlayed}
use Rattle.play_rounds.proofs.AllTimes.{more_played, none_played, stops_after, stops_behind}
use Rattle.play_rounds.proofs.times.all_times.Goals as goal

pub loop-time-init : goal.loop-time-init
loop-time-init g c = record {
  home = c.requires.home;
  drawn = let next = c.requires.next in omega (arith, next);
  few = omega arith;
  so_far = none_played (g.F.Sink.state c.args.frames.now) (masks_seen c.args.stage.now.renderer c.args.first) (play_on c.args.stage.now) (history_of c.args.first.track.seen) _ c.requires.new c.new.ensures refl;
}

pub one_time-next-requires-clause-time : goal.one_time-next-requires-clause-time
one_time-next-requires-clause-time g c κs within = c.loop-time-test.true

pub one_time-next-requires-clause-room : goal.one_time-next-requires-clause-room
one_time-next-requires-clause-room g c =
    let few = c.requires.stage.playable.job.times.1 in let drawn = c.loop-time.invariant.drawn in let early = c.loop-time-test.true in omega (arith, few, drawn, early)

pub overflow_add-played : goal.overflow_add-played
overflow_add-played g c =
    let few = c.requires.stage.playable.job.times.1 in let were = c.loop-time.invariant.few in let early = c.loop-time-test.true in
    let more = rw c.in-Ok.is at c.one_time-next.ensures.few in omega (arith, few, were, early, more)

pub returns-in-Err-clause-stopped : goal.returns-in-Err-clause-stopped
returns-in-Err-clause-stopped g c =
    let stage = c.args.stage.now in let old = c.args.frames.now in let mid = c.loop-time.frames in let new = c.one_time-next.new.frames in
    let state = g.F.Sink.state in let seen = masks_seen stage.renderer in
    stops_after (state old) (state mid) (state new) (seen c.args.first) (seen c.loop-time.first) (seen c.one_time-next.result.0) (play_on stage) c.loop-time.time (history_of c.loop-time.first.track.seen) c.loop-time.played
    c.loop-time.invariant.so_far c.loop-time-test.true c.in-Err.stop (rw c.in-Err.is at c.one_time-next.ensures.stopped)

pub returns-in-Err-push-clause-stopped : goal.returns-in-Err-push-clause-stopped
returns-in-Err-push-clause-stopped g c =
    let stage = c.args.stage.now in let old = c.args.frames.now in let mid = c.loop-time.frames in let new = c.one_time-next.new.frames in
    let state = g.F.Sink.state in let seen = masks_seen stage.renderer in
    stops_behind (state old) (state mid) (state new) (seen c.args.first) (seen c.loop-time.first) (seen c.one_time-next.result.0) (play_on stage) c.loop-time.time (history_of c.loop-time.first.track.seen) c.loop-time.played
    c.loop-time.invariant.so_far c.loop-time-test.true (history_of c.one_time-next.result.0.track.seen) c.in-Ok.more.0 c.in-Ok.more.1 (rw c.in-Ok.is at c.one_time-next.ensures.played)

pub loop-time-preserved : goal.loop-time-preserved
loop-time-preserved g c =
    let stage = c.args.stage.now in let old = c.args.frames.now in let mid = c.loop-time.frames in let new = c.one_time-next.new.frames in
    let state = g.F.Sink.state in let seen = masks_seen stage.renderer in
    let more = rw c.in-Ok.is at c.one_time-next.ensures.few in let were = c.loop-time.invariant.few in
    let drawn = c.one_time-next.ensures.drawn in let before = c.loop-time.invariant.drawn in
    record {
      home = c.one_time-next.ensures.home;
      drawn = omega (arith, drawn, before);
      few = omega (arith, more, were);
      so_far = more_played (state old) (state mid) (state new) (seen c.args.first) (seen c.loop-time.first) (seen c.one_time-next.result.0) (play_on stage) c.loop-time.time (history_of c.loop-time.first.track.seen) c.loop-time.played
          c.loop-time.invariant.so_far (history_of c.one_time-next.result.0.track.seen) c.in-Ok.more.0 c.in-Ok.more.1 _ (rw c.in-Ok.is at c.one_time-next.ensures.played) c.in-Ok-push.ensures.ok refl;
    }

pub returns-clause-played : goal.returns-clause-played
returns-clause-played g c =
    let stage = c.args.stage.now in let old = c.args.frames.now in let new = c.loop-time.frames in
    let state = g.F.Sink.state in let seen = masks_seen stage.renderer in
    let end : c.loop-time.time ≡ stage.job.times = (let no = c.loop-time-test.false in omega (arith, no)) in
    subst (λ (n : ℕ). HavePlayed (play_on stage) n (history_of c.loop-time.first.track.seen) c.loop-time.played
    (λ (images : List ShownImage). AreImagesWritten images (state old) (state new) (seen c.args.first) (seen c.loop-time.first))) end c.loop-time.invariant.so_far
