use Rattle.run_reports.specs.ChangeStreams.{changes_view}
use Rattle.run_reports.proofs.ChangeLemmas.{stream_told}
use Rattle.run_reports.proofs.changes.tell_changes.Goals as goal

pub returns-in-Text : goal.returns-in-Text
returns-in-Text g c =
    let changes = changes_view c.args.form c.args.inputs.script c.args.inputs.fonts c.args.changes.now.instants c.args.changes.now.view in
    stream_told c.args.form changes (g.R.Sink.state c.args.report.now) (g.R.Sink.state c.stream.new.report) c.stream.result c.in-Text.is c.stream.ensures
