use Rattle.play_laws.proofs.AgreementLemmas.{reports_agree}
use Rattle.play_laws.proofs.laws.selftests_agree.Goals as goal

pub returns : goal.returns
returns c seed events one other a b reads too decided sure said says = reports_agree c.one_picture.ensures.draws seed events one other a b reads too decided sure said says
