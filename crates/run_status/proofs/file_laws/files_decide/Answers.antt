use Rattle.run_status.proofs.DecideLemmas as lemmas
use Rattle.run_status.proofs.ExistLemmas.{files_have_an_answer}
use Rattle.run_status.proofs.file_laws.files_decide.Goals as goal

pub returns-clause-some : goal.returns-clause-some
returns-clause-some c = files_have_an_answer c.one_answer.ensures.files c.one_embedded_answer.ensures

pub returns-clause-one : goal.returns-clause-one
returns-clause-one c = lemmas.files_decide c.one_answer.ensures.files c.one_embedded_answer.ensures
