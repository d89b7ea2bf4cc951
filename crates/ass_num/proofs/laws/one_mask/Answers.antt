use Rattle.ass_num.proofs.CoverageLemmas.{one_cover, one_sum}
use Rattle.ass_num.proofs.MaskLemmas as law
use Rattle.ass_num.proofs.laws.one_mask.Goals as goal

pub returns-clause-mask : goal.returns-clause-mask
returns-clause-mask c = law.one_mask

pub returns-clause-cover : goal.returns-clause-cover
returns-clause-cover c = one_cover

pub returns-clause-sum : goal.returns-clause-sum
returns-clause-sum c = one_sum
