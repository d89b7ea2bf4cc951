use Rattle.std.proofs.Common.{List, Result, subst, sym}
use Rattle.single_run.specs.Runs.{sink_change}
use Rattle.still_images.specs.declared.fault.StillsFault.{StillsFault}
use Rattle.still_lists.specs.declared.entry.StillEntry.{StillEntry}
use Rattle.run_reports.specs.StillTales.{IsListPut, IsListedTale, IsStillsTale}
use Rattle.run_reports.proofs.stills.stills_tale.Goals as goal

pub returns-in-Ok : goal.returns-in-Ok
returns-in-Ok g c =
    let old = g.I.Sink.state c.args.index.now in
    let new = g.I.Sink.state c.put_list-answer.new.index in
    subst (λ (end : Result (List StillEntry) StillsFault). IsStillsTale c.args.form c.args.fault c.args.options.now.index c.args.job.now (sink_change old new) end c.listed_tale.result) (sym c.in-Ok.is) (
      c.put_list-answer.result,
      subst (λ (entries : List StillEntry). IsListPut c.args.options.now.index c.args.job.now entries c.put_list-answer.result old new) c.as_slice-entries.ensures c.put_list-answer.ensures,
      subst (λ (entries : List StillEntry). IsListedTale c.args.form c.args.job.now entries c.put_list-answer.result c.listed_tale.result) c.as_slice-entries.ensures c.listed_tale.ensures,
    )
