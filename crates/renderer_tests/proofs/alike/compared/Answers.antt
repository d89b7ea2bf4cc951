use Rattle.renderer_tests.proofs.alike.compared.Goals as goal

pub returns-in-Err : goal.returns-in-Err
returns-in-Err g c = (c.held_frame-held.ensures.pass, rw c.in-Err.is at c.held_frame-held.ensures.none)
