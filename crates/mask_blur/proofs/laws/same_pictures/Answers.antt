use Rattle.mask_blur.proofs.AlikeLemmas.{softened-along, blurred-along}
use Rattle.mask_blur.proofs.laws.same_pictures.Goals as goal

pub returns-clause-softened : goal.returns-clause-softened
returns-clause-softened c = softened-along

pub returns-clause-blurred : goal.returns-clause-blurred
returns-clause-blurred c = blurred-along
