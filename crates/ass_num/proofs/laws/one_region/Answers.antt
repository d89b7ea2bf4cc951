use Rattle.ass_num.proofs.RegionLemmas as law
use Rattle.ass_num.proofs.laws.one_region.Goals as goal

pub returns : goal.returns
returns c = law.one_region
