use Rattle.cff_font.proofs.MachineBounds.{contours-within}
use Rattle.cff_font.proofs.laws.contours_are_total.Goals as goal

pub returns : goal.returns
returns c = contours-within
