use Rattle.std.proofs.Common.{arith}
use Rattle.std.proofs.lemmas.Int.{ints}
use Rattle.plain_images.proofs.PaneLemmas.{same_pane}
use Rattle.plain_images.proofs.panes.box_pane.Goals as goal

pub returns : goal.returns
returns c = same_pane _ _ _ _ _ _ _ _ (omega (arith, ints)) (omega (arith, ints)) (omega (arith, ints)) (omega (arith, ints))
