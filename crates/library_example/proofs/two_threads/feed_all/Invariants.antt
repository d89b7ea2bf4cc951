use Rattle.renderer.specs.Passes.{HoldsNothing, IsPassOfRenderer}
use Rattle.library_example.proofs.two_threads.feed_all.Given as goal

abbrev pub invariant-loop-chunk : goal.invariant-loop-chunk
invariant-loop-chunk g l = IsPassOfRenderer l.renderer l.pass × HoldsNothing l.renderer l.pass
