use Rattle.std.proofs.Common.{arith}
use Rattle.std.proofs.lemmas.Int.{ints, clamps}
use Rattle.plain_images.proofs.PaneLemmas.{same_pane}
use Rattle.plain_images.proofs.panes.Pane.both.Goals as goal

pub returns : goal.returns
returns c =
    same_pane _ _ _ _ _ _ _ _
    (omega (arith, ints, clamps, c.max.ensures.value)) (omega (arith, ints, clamps, c.max-2.ensures.value))
    (omega (arith, ints, clamps, c.min.ensures.value)) (omega (arith, ints, clamps, c.min-2.ensures.value))
