use Rattle.run_reports.proofs.exit.exit_of_asked.Goals as goal

pub returns : goal.returns
returns g c = (c.run_asked.result, c.exit_status.ensures, c.run_asked.ensures)
