use Rattle.track_history.specs.Tellings.{IsSound}
use Rattle.sharing_tests.proofs.live_events.feed_million.Given as goal

abbrev pub invariant-loop-i : goal.invariant-loop-i
invariant-loop-i l = IsSound l.live
