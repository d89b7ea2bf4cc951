use Rattle.std.proofs.Common.{◌∙◌, Bool, ap, subst}
use Rattle.run_status.specs.declared.ending.Ending.{Ending}
use Rattle.single_run.specs.Runs.{sink_change}
use Rattle.run_reports.specs.StillTales.{IsStillsTale}
use Rattle.run_reports.specs.Tales.{fault_ending}
use Rattle.run_reports.proofs.stills.tell_stills.Goals as goal

pub returns : goal.returns
returns g c =
    let index = sink_change (g.I.Sink.state c.args.index.now) (g.I.Sink.state c.stills_tale-tale.new.index) in
    record {
      end = c.list_stills-end.result;
      shown = c.list_stills-end.ensures;
      tale = c.stills_tale-tale.result;
      came = subst (λ (fault : Ending). IsStillsTale c.args.form fault c.args.options.now.index c.args.job.now index c.list_stills-end.result c.stills_tale-tale.result)
          (c.fault_ending-fault.ensures ∙ ap (λ (closed : Bool). fault_ending closed c.args.options.now.quiet_pipe) c.is_closed.ensures) c.stills_tale-tale.ensures;
      told = c.tell.ensures;
    }
