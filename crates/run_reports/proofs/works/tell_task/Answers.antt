use Rattle.std.proofs.Common.{refl, subst, sym}
use Rattle.single_run.specs.Runs.{sink_change}
use Rattle.single_run.specs.declared.work.Task.{Task}
use Rattle.run_reports.specs.Tales.{IsTaskTold, told_run}
use Rattle.run_reports.proofs.WorkLemmas.{changes_told, check_told, stills_told}
use Rattle.run_reports.proofs.works.tell_task.Goals as goal

pub returns-in-Check : goal.returns-in-Check
returns-in-Check g c =
    let frames = g.F.Sink.state c.args.frames.now in
    let index = g.I.Sink.state c.args.index.now in
    let report = sink_change (g.R.Sink.state c.args.report.now) (g.R.Sink.state c.tell.new.report) in
    let run = told_run c.args.options.now (g.F.PipedSink.closed c.args.frames.now) (sink_change frames frames) (sink_change index index) report in
    subst (λ (task : Task). IsTaskTold run task c.args.inputs c.tell.result) (sym c.in-Check.is)
    (check_told run c.args.inputs c.tell.result c.report_form-form.result c.report_form-form.ensures c.check_tale.result (refl, refl) c.check_tale.ensures c.tell.ensures)

pub returns-in-Changes : goal.returns-in-Changes
returns-in-Changes g c =
    let frames = g.F.Sink.state c.args.frames.now in
    let index = g.I.Sink.state c.args.index.now in
    let report = sink_change (g.R.Sink.state c.args.report.now) (g.R.Sink.state c.tell_changes.new.report) in
    let run = told_run c.args.options.now (g.F.PipedSink.closed c.args.frames.now) (sink_change frames frames) (sink_change index index) report in
    subst (λ (task : Task). IsTaskTold run task c.args.inputs c.tell_changes.result) (sym c.in-Changes.is)
    (changes_told run c.args.inputs c.tell_changes.result c.report_form-form.result c.report_form-form.ensures c.in-Changes.changes (refl, refl) c.tell_changes.ensures)

pub returns-in-Stills : goal.returns-in-Stills
returns-in-Stills g c =
    let frames = sink_change (g.F.Sink.state c.args.frames.now) (g.F.Sink.state c.tell_stills.new.frames) in
    let index = sink_change (g.I.Sink.state c.args.index.now) (g.I.Sink.state c.tell_stills.new.index) in
    let report = sink_change (g.R.Sink.state c.args.report.now) (g.R.Sink.state c.tell_stills.new.report) in
    let run = told_run c.args.options.now (g.F.PipedSink.closed c.tell_stills.new.frames) frames index report in
    subst (λ (task : Task). IsTaskTold run task c.args.inputs c.tell_stills.result) (sym c.in-Stills.is)
    (stills_told run c.args.inputs c.tell_stills.result c.report_form-form.result c.report_form-form.ensures c.in-Stills.stills c.tell_stills.ensures)
