use Rattle.renderer_tests.specs.Passes.{IsIdle}
use Rattle.renderer_tests.proofs.calls.feed_crowd.Given as goal

abbrev pub invariant-loop-i : goal.invariant-loop-i
invariant-loop-i g l = IsIdle l.renderer l.mine
