use Rattle.std.proofs.Common.{refl, subst}
use Rattle.ass_io.specs.declared.named_sink.Making.TheVariants.{Made, Failed, OutOfMemory}
use Rattle.run_status.specs.Endings.{memory_ending}
use Rattle.run_status.specs.declared.ending.Ending.TheVariants.{ListFault}
use Rattle.run_words.specs.declared.report_words.ReportForm.{ReportForm}
use Rattle.run_reports.specs.Telling.{IsTold}
use Rattle.run_reports.specs.declared.tale.Tale.TheVariants.{Ends}
use Rattle.run_reports.proofs.run.do_listed.Goals as goal

pub returns-in-Made : goal.returns-in-Made
returns-in-Made g c = record {
  making = Made;
  begun = g.I.Sink.state c.begin.new.output;
  makes = c.in-Made.ensures;
  run = c.do_job.ensures;
}

pub returns-in-Failed : goal.returns-in-Failed
returns-in-Failed g c = record {
  making = Failed;
  begun = g.I.Sink.state c.begin.new.output;
  makes = c.in-Failed.ensures;
  run = record {
    nothing = (refl, refl, refl);
    told = subst (λ (f : ReportForm). IsTold f (Ends ListFault) (g.R.Sink.state c.args.report.now) (g.R.Sink.state c.tell.new.report) c.tell.result) c.report_form-form.ensures c.tell.ensures;
  };
}

pub returns-in-OutOfMemory : goal.returns-in-OutOfMemory
returns-in-OutOfMemory g c = record {
  making = OutOfMemory;
  begun = g.I.Sink.state c.begin.new.output;
  makes = c.in-OutOfMemory.ensures;
  run = record {
    nothing = (refl, refl, refl);
    told = subst (λ (f : ReportForm). IsTold f (Ends memory_ending) (g.R.Sink.state c.args.report.now) (g.R.Sink.state c.tell-in-OutOfMemory.new.report) c.tell-in-OutOfMemory.result) c.report_form-form.ensures c.tell-in-OutOfMemory.ensures;
  };
}
