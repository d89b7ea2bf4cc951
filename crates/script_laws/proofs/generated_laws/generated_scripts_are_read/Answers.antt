use Rattle.script_laws.proofs.GeneratedEvents.{lines_give}
use Rattle.script_laws.proofs.ReadGenerated.{generated_fits, generated_read}
use Rattle.script_laws.proofs.generated_laws.generated_scripts_are_read.Goals as goal

pub returns-clause-read : goal.returns-clause-read
returns-clause-read c = generated_read

pub returns-clause-fits : goal.returns-clause-fits
returns-clause-fits c = generated_fits

pub returns-clause-events : goal.returns-clause-events
returns-clause-events c = lines_give
