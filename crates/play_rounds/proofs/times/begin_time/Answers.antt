use Rattle.std.proofs.Common.{arith}
use Rattle.track_history.specs.Answers.{flushed_entry}
use Rattle.track_history.specs.Calls.{history_of}
use Rattle.play_rounds.proofs.Turns.{home_turn}
use Rattle.play_workers.specs.Stages.{play_on}
use Rattle.play_rounds.proofs.BeginTimes.{begin_flushed, begin_same, flushed_history, seen_same}
use Rattle.play_rounds.proofs.times.begin_time.Goals as goal

pub returns-then-time-eq0-clause-begins : goal.returns-then-time-eq0-clause-begins
returns-then-time-eq0-clause-begins g c = begin_same (play_on c.args.stage.now) c.args.time (history_of c.args.first.track.seen) (omega arith)

pub returns-clause-home : goal.returns-clause-home
returns-clause-home g c =
    home_turn c.args.stage.now.renderer c.args.first c.flush-first.result.0 (flushed_entry c.flush-first.result.1) c.requires.home c.flush-first.ensures.pass c.flush-first.ensures.flushed.turn c.flush-first.ensures.caches

pub returns-clause-drawn : goal.returns-clause-drawn
returns-clause-drawn g c = c.flush-first.ensures.flushed.turn.turn.follows.next

pub returns-clause-begins : goal.returns-clause-begins
returns-clause-begins g c =
    begin_flushed (play_on c.args.stage.now) c.args.time (history_of c.args.first.track.seen) (history_of c.flush-first.result.0.track.seen) (omega arith) c.requires.time
    (flushed_history c.args.stage.now.renderer c.args.first c.flush-first.result.0 c.requires.home c.flush-first.ensures.pass c.flush-first.result.1 c.flush-first.ensures.flushed)

pub returns-clause-asks : goal.returns-clause-asks
returns-clause-asks g c = seen_same c.args.stage.now.renderer c.args.first c.flush-first.result.0 c.flush-first.ensures.caches
