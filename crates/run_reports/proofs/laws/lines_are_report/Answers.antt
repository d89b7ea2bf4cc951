use Rattle.run_reports.proofs.LineLemmas.{are_report}
use Rattle.run_reports.proofs.laws.lines_are_report.Goals as goal

pub returns : goal.returns
returns c = λ script fonts instants view place last lines are. are_report script fonts instants view place last lines are
