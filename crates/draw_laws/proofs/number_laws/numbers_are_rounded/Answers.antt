use Rattle.draw_laws.proofs.RoundedNumbers.{bounds_rounded, pens_rounded, widths_rounded}
use Rattle.draw_laws.proofs.number_laws.numbers_are_rounded.Goals as goal

pub returns-clause-widths : goal.returns-clause-widths
returns-clause-widths c = widths_rounded

pub returns-clause-pens : goal.returns-clause-pens
returns-clause-pens c = pens_rounded

pub returns-clause-bounds : goal.returns-clause-bounds
returns-clause-bounds c = bounds_rounded
