use Rattle.std.proofs.Common.{arith}
use Rattle.play_command.proofs.ReadLemmas.{script_found, script_refused}
use Rattle.play_command.proofs.reading.script_in.Goals as goal

pub returns-in-Ok-clause-read : goal.returns-in-Ok-clause-read
returns-in-Ok-clause-read c = script_found c.args.bytes.now c.in-Ok.script (omega arith) c.in-Ok.ensures.answer

pub returns-in-Err-clause-read : goal.returns-in-Err-clause-read
returns-in-Err-clause-read c = script_refused c.args.bytes.now c.in-Err.refusal c.script_status.result (omega arith) c.in-Err.ensures.answer c.script_status.ensures
