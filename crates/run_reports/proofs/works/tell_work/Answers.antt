use Rattle.std.proofs.Common.{Option, Result, refl, subst, sym}
use Rattle.ass_io.specs.Fetches.{fetch_change}
use Rattle.run_status.specs.declared.ending.Ending.TheVariants.{As}
use Rattle.run_status.specs.declared.status.Status.{Status}
use Rattle.run_words.specs.declared.report_words.ReportForm.{ReportForm}
use Rattle.single_run.specs.Runs.{sink_change}
use Rattle.single_run.specs.declared.work.Work.{Work}
use Rattle.run_reports.specs.Tales.{IsWorkTold, told_run}
use Rattle.run_reports.specs.Telling.{IsTold}
use Rattle.run_reports.specs.declared.tale.Tale.TheVariants.{Ends}
use Rattle.run_reports.proofs.WorkLemmas.{work_is_done, work_reports}
use Rattle.run_reports.proofs.works.tell_work.Goals as goal

pub do_work-requires-clause-reports : goal.do_work-requires-clause-reports
do_work-requires-clause-reports g c =
    let asked = rw c.in-Ok-Some.field-0-is at c.in-Ok-Some.ensures.asked in
    work_reports c.args.job c.in-Ok-Some.work c.requires.reports (sym asked)

pub unreachable-requires : goal.unreachable-requires
unreachable-requires g c =
    let asked = rw c.in-Ok-None.field-0-is at c.in-Ok-None.ensures.asked in
    absurd (work_is_done c.args.job c.requires.reports (sym asked))

pub returns-in-Ok-Some : goal.returns-in-Ok-Some
returns-in-Ok-Some g c =
    let asked = rw c.in-Ok-Some.field-0-is at c.in-Ok-Some.ensures.asked in
    let log = fetch_change (g.S.Shelf.log c.args.shelf.now) (g.S.Shelf.log c.do_work.new.shelf) in
    let frames = sink_change (g.F.Sink.state c.args.frames.now) (g.F.Sink.state c.do_work.new.frames) in
    let index = sink_change (g.I.Sink.state c.args.index.now) (g.I.Sink.state c.do_work.new.index) in
    let report = sink_change (g.R.Sink.state c.args.report.now) (g.R.Sink.state c.do_work.new.report) in
    let run = told_run c.args.options.now (g.F.PipedSink.closed c.do_work.new.frames) frames index report in
    subst (λ (answer : Result (Option Work) Status). IsWorkTold (g.S.Shelf.told c.args.shelf.now) log run answer c.do_work.result) asked c.do_work.ensures

pub returns-in-Err : goal.returns-in-Err
returns-in-Err g c =
    let log = g.S.Shelf.log c.args.shelf.now in
    let frames = g.F.Sink.state c.args.frames.now in
    let index = g.I.Sink.state c.args.index.now in
    let report = sink_change (g.R.Sink.state c.args.report.now) (g.R.Sink.state c.tell.new.report) in
    let run = told_run c.args.options.now (g.F.PipedSink.closed c.args.frames.now) (sink_change frames frames) (sink_change index index) report in
    subst (λ (answer : Result (Option Work) Status). IsWorkTold (g.S.Shelf.told c.args.shelf.now) (fetch_change log log) run answer c.tell.result) c.in-Err.ensures.asked (
      refl,
      (refl, refl),
      subst (λ (f : ReportForm). IsTold f (Ends (As c.in-Err.status)) report.before report.now c.tell.result) c.report_form.ensures c.tell.ensures,
    )
