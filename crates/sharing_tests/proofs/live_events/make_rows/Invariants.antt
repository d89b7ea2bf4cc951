use Rattle.track_history.specs.Tellings.{IsSound}
use Rattle.sharing_tests.proofs.live_events.make_rows.Given as goal

abbrev pub invariant-loop-row : goal.invariant-loop-row
invariant-loop-row l = IsSound l.live
