use Rattle.std.proofs.Common.{Err, Ok, refl, subst}
use Rattle.ass_io.specs.Fetches.{fetch_change}
use Rattle.run_status.specs.Fetches.{AreFetched}
use Rattle.run_status.specs.Inputs.{AreRead}
use Rattle.run_status.specs.declared.ending.Ending.TheVariants.{As}
use Rattle.run_words.specs.declared.report_words.ReportForm.{ReportForm}
use Rattle.single_run.proofs.InputLemmas.{inputs_suit}
use Rattle.run_reports.specs.Telling.{IsTold}
use Rattle.run_reports.specs.declared.tale.Tale.TheVariants.{Ends}
use Rattle.run_reports.proofs.works.do_work.Goals as goal

pub tell_task-requires-clause-inputs : goal.tell_task-requires-clause-inputs
tell_task-requires-clause-inputs g c =
    let told = g.S.Shelf.told c.args.shelf.now in
    inputs_suit c.lines_fit_their_text.ensures told c.args.work.now.task c.args.work.now.script c.args.work.now.fonts c.in-Ok.inputs c.requires.within
    (subst (λ fonts. AreRead told c.args.work.now.script fonts (Ok c.in-Ok.inputs)) c.as_slice.ensures c.in-Ok.ensures.read) c.in-Ok.ensures.fonts

pub returns-in-Ok : goal.returns-in-Ok
returns-in-Ok g c =
    let told = g.S.Shelf.told c.args.shelf.now in
    let log = fetch_change (g.S.Shelf.log c.args.shelf.now) (g.S.Shelf.log c.read_inputs.new.shelf) in
    record {
      reading = Ok c.in-Ok.inputs;
      read = subst (λ fonts. AreRead told c.args.work.now.script fonts (Ok c.in-Ok.inputs)) c.as_slice.ensures c.in-Ok.ensures.read;
      fetched = subst (λ fonts. AreFetched c.args.work.now.script fonts log (Ok c.in-Ok.inputs)) c.as_slice.ensures c.in-Ok.ensures.fetched;
      telling = c.tell_task.ensures;
    }

pub returns-in-Err : goal.returns-in-Err
returns-in-Err g c =
    let told = g.S.Shelf.told c.args.shelf.now in
    let log = fetch_change (g.S.Shelf.log c.args.shelf.now) (g.S.Shelf.log c.read_inputs.new.shelf) in
    record {
      reading = Err c.in-Err.status;
      read = subst (λ fonts. AreRead told c.args.work.now.script fonts (Err c.in-Err.status)) c.as_slice.ensures c.in-Err.ensures.read;
      fetched = subst (λ fonts. AreFetched c.args.work.now.script fonts log (Err c.in-Err.status)) c.as_slice.ensures c.in-Err.ensures.fetched;
      telling = (
        (refl, refl),
        subst (λ (f : ReportForm). IsTold f (Ends (As c.in-Err.status)) (g.R.Sink.state c.args.report.now) (g.R.Sink.state c.tell.new.report) c.tell.result) c.report_form.ensures c.tell.ensures,
      );
    }
