use Rattle.renderer_tests.proofs.calls.tried.Goals as goal

pub returns-in-Err : goal.returns-in-Err
returns-in-Err g c = (c.held_by-held.ensures.pass, rw c.in-Err.is at c.held_by-held.ensures.none)
