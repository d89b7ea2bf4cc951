use Rattle.renderer_tests.specs.Passes.{IsIdle}
use Rattle.renderer_tests.proofs.one.all_called.Given as goal

abbrev pub invariant-loop-call : goal.invariant-loop-call
invariant-loop-call g l = IsIdle l.renderer l.mine
