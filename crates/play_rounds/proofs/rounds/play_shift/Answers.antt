use Rattle.std.proofs.Common.{arith}
use Rattle.track_history.specs.Calls.{history_of}
use Rattle.play_workers.specs.Stages.{play_on}
use Rattle.play_rounds.specs.Shifts.{crew_of}
use Rattle.play_rounds.proofs.Bounds.{crew_at_least, crew_at_most, crew_is_fit}
use Rattle.play_rounds.proofs.Plays.{stops_now}
use Rattle.play_rounds.proofs.rounds.play_shift.Goals as goal

pub returns-in-Err-clause-stopped : goal.returns-in-Err-clause-stopped
returns-in-Err-clause-stopped g c = stops_now (g.F.Sink.state c.args.frames.now)
    (play_on c.args.stage.now) (crew_of c.args.stage.now.job c.args.shift) 0 (history_of c.args.first.track.seen)

pub at_once-requires-clause-some : goal.at_once-requires-clause-some
at_once-requires-clause-some g c =
    let some = crew_at_least c.args.stage.now c.requires.stage c.args.shift c.in-Ok.workers.items c.in-Ok.ensures.roles in search (arith, some)

pub all_rounds-played-requires-clause-some : goal.all_rounds-played-requires-clause-some
all_rounds-played-requires-clause-some g c κs within = rw c.as_mut_slice-crew.ensures.value (crew_at_least c.args.stage.now c.requires.stage c.args.shift c.in-Ok.workers.items c.in-Ok.ensures.roles)

pub all_rounds-played-requires-clause-few : goal.all_rounds-played-requires-clause-few
all_rounds-played-requires-clause-few g c κs within = rw c.as_mut_slice-crew.ensures.value (crew_at_most c.args.stage.now c.requires.stage c.args.shift c.in-Ok.workers.items c.in-Ok.ensures.roles)

pub all_rounds-played-requires-clause-roles : goal.all_rounds-played-requires-clause-roles
all_rounds-played-requires-clause-roles g c κs within = rw c.as_mut_slice-crew.ensures.value (crew_is_fit c.args.stage.now c.requires.stage c.args.shift c.in-Ok.workers.items c.in-Ok.ensures.roles)

pub returns-clause-played : goal.returns-clause-played
returns-clause-played g c = rw (c.as_mut_slice-crew.ensures.value, c.in-Ok.ensures.roles, c.rounds_of-rounds.ensures.rounds) at c.all_rounds-played.ensures.played

pub returns-clause-stopped : goal.returns-clause-stopped
returns-clause-stopped g c = rw (c.as_mut_slice-crew.ensures.value, c.in-Ok.ensures.roles) at c.all_rounds-played.ensures.stopped
