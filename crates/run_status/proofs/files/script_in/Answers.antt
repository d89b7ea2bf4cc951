use Rattle.run_status.proofs.OwnLemmas.{script_refused}
use Rattle.run_status.proofs.files.script_in.Goals as goal

pub returns-in-Err-clause-asked : goal.returns-in-Err-clause-asked
returns-in-Err-clause-asked c = script_refused c.one_embedded_answer.ensures c.args.own c.args.bytes.now c.in-Err.refusal c.script_status.result c.in-Err.ensures.answer c.script_status.ensures
