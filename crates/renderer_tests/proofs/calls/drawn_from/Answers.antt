use Rattle.renderer_tests.proofs.calls.drawn_from.Goals as goal

pub returns-in-Err : goal.returns-in-Err
returns-in-Err g c = (c.held_from-held.ensures.pass, rw c.in-Err.is at c.held_from-held.ensures.none)
