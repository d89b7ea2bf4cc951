use Rattle.std.proofs.Common.{ℕ, List, refl, rules, subst, sym}
use Rattle.ass_io.specs.Fetches.{fetch_change}
use Rattle.run_words.specs.Jobs.{IsJob, IsPlay}
use Rattle.run_words.specs.ReportWords.{report_form}
use Rattle.run_words.specs.declared.job.Job.{Job}
use Rattle.run_words.specs.declared.job.Job.TheVariants.{Selftest}
use Rattle.run_words.specs.declared.report_words.ReportForm.{ReportForm}
use Rattle.single_run.specs.Runs.{sink_change}
use Rattle.run_reports.specs.AskedRuns.{IsJobTold, fault_end, run_sight}
use Rattle.run_reports.specs.Tales.{IsPlayTold, IsSelftestTold}
use Rattle.run_reports.proofs.WorkLemmas.{report_work, work_told}
use Rattle.run_reports.proofs.run.do_job.Goals as goal

pub tell_play-requires : goal.tell_play-requires
tell_play-requires g c =
    let within : IsPlay c.in-Play.play = subst IsJob c.in-Play.is c.requires.within in
    search (rules, within)

pub tell_selftest-requires : goal.tell_selftest-requires
tell_selftest-requires g c =
    let within : IsJob (Selftest c.in-Selftest.seed c.in-Selftest.events c.in-Selftest.workers) = subst IsJob c.in-Selftest.is c.requires.within in
    search (rules, within)

pub tell_work-requires-clause-reports : goal.tell_work-requires-clause-reports
tell_work-requires-clause-reports g c = report_work c.args.job c.requires.reports c.in_default.not-Play c.in_default.not-Selftest

pub returns-in-Play : goal.returns-in-Play
returns-in-Play g c =
    let told = g.S.Shelf.told c.args.shelf.now in
    let log = fetch_change (g.S.Shelf.log c.args.shelf.now) (g.S.Shelf.log c.tell_play.new.shelf) in
    let frames = sink_change (g.F.Sink.state c.args.frames.now) (g.F.Sink.state c.tell_play.new.frames) in
    let index = g.I.Sink.state c.args.index.now in
    let report = sink_change (g.R.Sink.state c.args.report.now) (g.R.Sink.state c.tell_play.new.report) in
    let run = run_sight told log frames (sink_change index index) report (g.F.PipedSink.closed c.tell_play.new.frames) in
    let fault = fault_end c.args.options.now run in
    subst (λ (job : Job). IsJobTold c.args.options.now job run c.tell_play.result) (sym c.in-Play.is) (
      refl,
      subst (λ (fonts : List (List ℕ)). IsPlayTold told log (report_form c.args.options.now) fault c.in-Play.play c.in-Play.script fonts frames report c.tell_play.result) c.as_slice-fonts.ensures
          (subst (λ (f : ReportForm). IsPlayTold told log f fault c.in-Play.play c.in-Play.script c.as_slice-fonts.result.now frames report c.tell_play.result) c.report_form-form.ensures c.tell_play.ensures),
    )

pub returns-in-Selftest : goal.returns-in-Selftest
returns-in-Selftest g c =
    let told = g.S.Shelf.told c.args.shelf.now in
    let log = g.S.Shelf.log c.args.shelf.now in
    let frames = g.F.Sink.state c.args.frames.now in
    let index = g.I.Sink.state c.args.index.now in
    let report = sink_change (g.R.Sink.state c.args.report.now) (g.R.Sink.state c.tell_selftest.new.report) in
    let run = run_sight told (fetch_change log log) (sink_change frames frames) (sink_change index index) report (g.F.PipedSink.closed c.args.frames.now) in
    subst (λ (job : Job). IsJobTold c.args.options.now job run c.tell_selftest.result) (sym c.in-Selftest.is) (
      refl,
      (refl, refl),
      subst (λ (f : ReportForm). IsSelftestTold f c.in-Selftest.seed c.in-Selftest.events report c.tell_selftest.result) c.report_form-form.ensures c.tell_selftest.ensures,
    )

pub returns-in_default : goal.returns-in_default
returns-in_default g c =
    let log = fetch_change (g.S.Shelf.log c.args.shelf.now) (g.S.Shelf.log c.tell_work.new.shelf) in
    let frames = sink_change (g.F.Sink.state c.args.frames.now) (g.F.Sink.state c.tell_work.new.frames) in
    let index = sink_change (g.I.Sink.state c.args.index.now) (g.I.Sink.state c.tell_work.new.index) in
    let report = sink_change (g.R.Sink.state c.args.report.now) (g.R.Sink.state c.tell_work.new.report) in
    let run = run_sight (g.S.Shelf.told c.args.shelf.now) log frames index report (g.F.PipedSink.closed c.tell_work.new.frames) in
    work_told c.args.options.now c.args.job run c.tell_work.result (report_work c.args.job c.requires.reports c.in_default.not-Play c.in_default.not-Selftest) c.tell_work.ensures
