use Rattle.ass_script.proofs.NumberReads.{milli_both, style_colour_both}
use Rattle.ass_script.proofs.laws.numbers_are_read.Goals as goal

pub returns-clause-millis : goal.returns-clause-millis
returns-clause-millis c = milli_both

pub returns-clause-colours : goal.returns-clause-colours
returns-clause-colours c = style_colour_both
