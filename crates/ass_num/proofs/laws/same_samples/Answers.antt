use Rattle.ass_num.proofs.CoverageLemmas.{samples_of-along, IsCover-along}
use Rattle.ass_num.proofs.laws.same_samples.Goals as goal

pub returns-clause-count : goal.returns-clause-count
returns-clause-count c = samples_of-along

pub returns-clause-mask : goal.returns-clause-mask
returns-clause-mask c = IsCover-along
