use Rattle.run_words.proofs.ReportLemmas.{lists_fit, plain_stays}
use Rattle.run_words.proofs.report_words.reports_fit_jobs.Goals as goal

pub returns : goal.returns
returns c = record { plain = plain_stays; lists = lists_fit }
