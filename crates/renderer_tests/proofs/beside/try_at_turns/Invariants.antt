use Rattle.renderer_tests.specs.Passes.{IsIdle}
use Rattle.renderer_tests.proofs.beside.try_at_turns.Given as goal

abbrev pub invariant-loop : goal.invariant-loop
invariant-loop g l = IsIdle l.renderer l.mine
