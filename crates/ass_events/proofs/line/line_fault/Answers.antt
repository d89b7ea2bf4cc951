use Rattle.std.proofs.Common.{◌∙◌}
use Rattle.ass_events.proofs.EventLemmas.{fault_read, no_fault}
use Rattle.ass_events.proofs.line.line_fault.Goals as goal

pub returns-in-Ok : goal.returns-in-Ok
returns-in-Ok c = no_fault _ c.args.i _ _ (rw (c.format.ensures, c.line.ensures) at c.in-Ok.ensures)

pub returns-in-Err : goal.returns-in-Err
returns-in-Err c = c.fault_of.ensures ∙ fault_read _ c.args.i _ c.in-Err.refusal (rw (c.format.ensures, c.line.ensures) at c.in-Err.ensures)
