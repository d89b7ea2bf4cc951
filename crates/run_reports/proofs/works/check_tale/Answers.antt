use Rattle.run_reports.proofs.works.check_tale.Goals as goal

pub returns-in-Ok : goal.returns-in-Ok
returns-in-Ok c = rw c.as_slice.ensures at c.in-Ok.ensures.text
