use Rattle.turn_cell.specs.Passes.{IsOf}
use Rattle.sharing_tests.proofs.tracks.feed_thousand.Given as goal

abbrev pub invariant-loop-i : goal.invariant-loop-i
invariant-loop-i g l = IsOf l.track l.mine
