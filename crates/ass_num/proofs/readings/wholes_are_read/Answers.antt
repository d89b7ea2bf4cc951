use Rattle.ass_num.proofs.WholeLaws.{wholes_read}
use Rattle.ass_num.proofs.readings.wholes_are_read.Goals as goal

pub returns : goal.returns
returns c = wholes_read
