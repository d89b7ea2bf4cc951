use Rattle.renderer_tests.proofs.alike.both_compared.Goals as goal

pub returns-in-Err : goal.returns-in-Err
returns-in-Err g c = record { one = (c.held_frame-held.ensures.pass, rw c.in-Err.is at c.held_frame-held.ensures.none); other = c.requires.other }
