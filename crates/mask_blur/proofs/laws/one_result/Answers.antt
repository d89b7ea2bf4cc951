use Rattle.mask_blur.proofs.AlikeLemmas.{one_softened, one_blurred}
use Rattle.mask_blur.proofs.laws.one_result.Goals as goal

pub returns-clause-softened : goal.returns-clause-softened
returns-clause-softened c = one_softened

pub returns-clause-blurred : goal.returns-clause-blurred
returns-clause-blurred c = one_blurred
