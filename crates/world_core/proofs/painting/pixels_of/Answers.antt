use Rattle.world_core.proofs.painting.pixels_of.Goals as goal

pub returns-then-not-drawn-clause-none : goal.returns-then-not-drawn-clause-none
returns-then-not-drawn-clause-none c = λ all. cc ((rw c.as_slice.ensures at c.in_ok-drawn.ensures.held).1 all, c.if-not-drawn.true)
