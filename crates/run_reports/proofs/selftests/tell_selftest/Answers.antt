use Rattle.std.proofs.Common.{subst}
use Rattle.run_reports.specs.Telling.{IsTold}
use Rattle.run_reports.specs.declared.tale.Tale.{Tale}
use Rattle.run_reports.proofs.selftests.tell_selftest.Goals as goal

pub returns : goal.returns
returns g c = record {
  outcome = c.do_selftest-outcome.result;
  worked = c.do_selftest-outcome.ensures;
  told = subst (λ (tale : Tale). IsTold c.args.form tale (g.R.Sink.state c.args.report.now) (g.R.Sink.state c.tell.new.report) c.tell.result) c.tale_of.ensures c.tell.ensures;
}
