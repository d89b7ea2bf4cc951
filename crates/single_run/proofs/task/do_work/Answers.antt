use Rattle.std.proofs.Common.{Err, Ok, subst}
use Rattle.ass_io.specs.Fetches.{fetch_change}
use Rattle.run_status.specs.Fetches.{AreFetched}
use Rattle.run_status.specs.Inputs.{AreRead}
use Rattle.single_run.specs.Outcomes.{status_if_put}
use Rattle.single_run.proofs.InputLemmas.{inputs_suit}
use Rattle.single_run.proofs.Runs.{read_same, refused_worked, refused_written}
use Rattle.single_run.proofs.task.do_work.Goals as goal

pub do_task-requires-clause-inputs : goal.do_task-requires-clause-inputs
do_task-requires-clause-inputs g c =
    let told = g.S.Shelf.told c.args.shelf.now in
    inputs_suit c.lines_fit_their_text.ensures told c.args.work.now.task c.args.work.now.script c.args.work.now.fonts c.in-Ok.inputs c.requires
    (subst (λ fonts. AreRead told c.args.work.now.script fonts (Ok c.in-Ok.inputs)) c.as_slice.ensures c.in-Ok.ensures.read) c.in-Ok.ensures.fonts

pub returns-in-Err-clause-run : goal.returns-in-Err-clause-run
returns-in-Err-clause-run g c =
    let told = g.S.Shelf.told c.args.shelf.now in
    let log = fetch_change (g.S.Shelf.log c.args.shelf.now) (g.S.Shelf.log c.read_inputs.new.shelf) in
    refused_worked told log c.args.work.now c.in-Err.status _
    (subst (λ fonts. AreRead told c.args.work.now.script fonts (Err c.in-Err.status)) c.as_slice.ensures c.in-Err.ensures.read)
    (subst (λ fonts. AreFetched c.args.work.now.script fonts log (Err c.in-Err.status)) c.as_slice.ensures c.in-Err.ensures.fetched)

pub returns-in-Err-clause-write : goal.returns-in-Err-clause-write
returns-in-Err-clause-write g c =
    let told = g.S.Shelf.told c.args.shelf.now in
    refused_written told c.args.work.now c.in-Err.status _
    (subst (λ fonts. AreRead told c.args.work.now.script fonts (Err c.in-Err.status)) c.as_slice.ensures c.in-Err.ensures.read)

pub returns-in-Ok-clause-run : goal.returns-in-Ok-clause-run
returns-in-Ok-clause-run g c =
    let told = g.S.Shelf.told c.args.shelf.now in
    let log = fetch_change (g.S.Shelf.log c.args.shelf.now) (g.S.Shelf.log c.read_inputs.new.shelf) in
    record {
      reading = Ok c.in-Ok.inputs;
      read = subst (λ fonts. AreRead told c.args.work.now.script fonts (Ok c.in-Ok.inputs)) c.as_slice.ensures c.in-Ok.ensures.read;
      fetched = subst (λ fonts. AreFetched c.args.work.now.script fonts log (Ok c.in-Ok.inputs)) c.as_slice.ensures c.in-Ok.ensures.fetched;
      answered = c.do_task.ensures.answered;
      done = c.do_task.ensures.done;
      own = c.do_task.ensures.own;
    }

pub returns-in-Ok-clause-read : goal.returns-in-Ok-clause-read
returns-in-Ok-clause-read g c =
    read_same c.args.work.now.task c.in-Ok.inputs (status_if_put c.do_task.result) _ _ c.in-Ok.ensures.counted c.do_task.ensures.answered
