use Rattle.std.proofs.Common.{◌∙◌, Bool, Ok, Err, ap, refl, subst}
use Rattle.run_reports.specs.Tales.{IsPlayTale, fault_ending}
use Rattle.run_status.specs.declared.ending.Ending.{Ending}
use Rattle.run_reports.proofs.plays.play_asked.Goals as goal

pub returns-in-Ok : goal.returns-in-Ok
returns-in-Ok g c = record {
  reading = Ok c.in-Ok.inputs;
  read = c.in-Ok.ensures.read;
  fetched = c.in-Ok.ensures.fetched;
  came = (
    c.in-Ok.ensures.playable,
    (
      c.play_headed-end.result,
      c.play_headed-end.ensures,
      subst (λ (f : Ending). IsPlayTale c.args.form f c.play_headed-end.result c.play_tale.result)
          (c.fault_ending.ensures ∙ ap (λ (closed : Bool). fault_ending closed c.args.is_quiet) c.is_closed.ensures) c.play_tale.ensures,
    ),
  );
}

pub returns-in-Err : goal.returns-in-Err
returns-in-Err g c = record {
  reading = Err c.in-Err.status;
  read = c.in-Err.ensures.read;
  fetched = c.in-Err.ensures.fetched;
  came = (refl, refl);
}
