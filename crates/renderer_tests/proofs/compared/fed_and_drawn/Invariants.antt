use Rattle.renderer_tests.specs.Passes.{IsIdle}
use Rattle.renderer_tests.proofs.compared.fed_and_drawn.Given as goal

abbrev pub invariant-loop-order : goal.invariant-loop-order
invariant-loop-order g l = IsIdle l.renderer l.mine
