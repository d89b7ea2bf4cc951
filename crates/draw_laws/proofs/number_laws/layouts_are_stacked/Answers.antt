use Rattle.draw_laws.proofs.StackedLines.{layout_stacked}
use Rattle.draw_laws.proofs.number_laws.layouts_are_stacked.Goals as goal

pub returns : goal.returns
returns c = layout_stacked
