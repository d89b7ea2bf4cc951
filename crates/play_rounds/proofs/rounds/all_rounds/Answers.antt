use Rattle.std.proofs.Common.{◌≡◌, ◌+◌, ◌∙◌, arith, refl}
use Rattle.track_history.specs.Calls.{history_of}
use Rattle.play_workers.specs.Asks.{masks_seen}
use Rattle.play_rounds.specs.Rounds.{worker_roles}
use Rattle.play_workers.specs.Stages.{play_on}
use Rattle.play_rounds.proofs.Bounds.{as_many, still_fit}
use Rattle.play_rounds.proofs.Plays.{plays_none, plays_then, stops_then}
use Rattle.play_rounds.proofs.rounds.all_rounds.Goals as goal

pub loop-round-init : goal.loop-round-init
loop-round-init g c = record {
  home = c.requires.home;
  drawn = omega arith;
  idle = c.requires.idle;
  crew = refl;
  few = omega arith;
  played = plays_none (g.F.Sink.state c.args.frames.now) (masks_seen c.args.stage.now.renderer c.args.first) (play_on c.args.stage.now) (worker_roles c.args.workers.now) 0 (history_of c.args.first.track.seen);
}

pub one_round-next-requires-clause-room : goal.one_round-next-requires-clause-room
one_round-next-requires-clause-room g c =
    let kept = c.loop-round.invariant in let long = as_many c.args.workers.now c.loop-round.workers kept.crew in
    let drawn = kept.drawn in let room = c.requires.room in let few = c.requires.few in let lt = c.loop-round-test.true in omega (arith, drawn, room, few, long, lt)

pub one_round-next-requires-clause-some : goal.one_round-next-requires-clause-some
one_round-next-requires-clause-some g c = let long = as_many c.args.workers.now c.loop-round.workers c.loop-round.invariant.crew in let some = c.requires.some in omega (arith, long, some)

pub one_round-next-requires-clause-few : goal.one_round-next-requires-clause-few
one_round-next-requires-clause-few g c = let long = as_many c.args.workers.now c.loop-round.workers c.loop-round.invariant.crew in let few = c.requires.few in omega (arith, long, few)

pub one_round-next-requires-clause-roles : goal.one_round-next-requires-clause-roles
one_round-next-requires-clause-roles g c κs within = still_fit c.args.stage.now.job c.args.workers.now c.loop-round.workers c.loop-round.invariant.crew c.requires.roles

pub loop-round-preserved : goal.loop-round-preserved
loop-round-preserved g c =
    let kept = c.loop-round.invariant in
    let one = c.one_round-next.ensures in
    let e = rw c.in-Ok.is at c.one_round-next.ensures in
    let long = as_many c.args.workers.now c.loop-round.workers kept.crew in
    record {
      home = one.home;
      drawn = (let drawn = kept.drawn in let more = one.drawn in let few = c.requires.few in omega (arith, drawn, more, few, long));
      idle = one.idle;
      crew = one.crew ∙ kept.crew;
      few = (let before = kept.few in let more = e.few in omega (arith, before, more));
      played = plays_then (g.F.Sink.state c.args.frames.now) (g.F.Sink.state c.loop-round.frames) (g.F.Sink.state c.one_round-next.new.frames) (masks_seen c.args.stage.now.renderer c.args.first) (masks_seen c.args.stage.now.renderer c.loop-round.first) (masks_seen c.args.stage.now.renderer c.one_round-next.result.0)
          (play_on c.args.stage.now) (worker_roles c.args.workers.now) 0 c.loop-round.round (history_of c.args.first.track.seen) (history_of c.loop-round.first.track.seen) c.loop-round.repeated kept.played
          (c.loop-round.round + 1) (history_of c.one_round-next.result.0.track.seen) c.in-Ok.more (rw kept.crew at e.played);
    }

pub returns-in-Err-clause-stopped : goal.returns-in-Err-clause-stopped
returns-in-Err-clause-stopped g c =
    let kept = c.loop-round.invariant in
    let e = rw c.in-Err.is at c.one_round-next.ensures in
    stops_then (g.F.Sink.state c.args.frames.now) (g.F.Sink.state c.loop-round.frames) (g.F.Sink.state c.one_round-next.new.frames) (masks_seen c.args.stage.now.renderer c.args.first) (masks_seen c.args.stage.now.renderer c.loop-round.first) (masks_seen c.args.stage.now.renderer c.one_round-next.result.0)
    (play_on c.args.stage.now) (worker_roles c.args.workers.now) 0 c.loop-round.round (history_of c.args.first.track.seen) (history_of c.loop-round.first.track.seen) c.loop-round.repeated kept.played
    c.in-Err.stop (rw kept.crew at e.stopped)

pub returns-clause-played : goal.returns-clause-played
returns-clause-played g c =
    let all : c.loop-round.round ≡ c.args.rounds = omega arith in
    rw all at c.loop-round.invariant.played
