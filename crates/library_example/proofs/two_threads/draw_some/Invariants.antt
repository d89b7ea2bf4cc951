use Rattle.renderer.specs.Passes.{IsFirstPass, IsPassOfRenderer}
use Rattle.library_example.proofs.two_threads.draw_some.Given as goal

abbrev pub invariant-loop-t : goal.invariant-loop-t
invariant-loop-t g l = IsPassOfRenderer l.renderer l.pass × IsFirstPass l.pass
