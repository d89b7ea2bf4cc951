use Rattle.region_rows.proofs.WidenedLemmas.{in_widened-along}
use Rattle.region_rows.proofs.laws.same_widened.Goals as goal

pub returns : goal.returns
returns c = in_widened-along
