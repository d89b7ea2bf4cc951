use Rattle.std.proofs.lemmas.List.Elements.{All-push}
use Rattle.mask_cover.specs.Sums.{IsPlaceableMask}
use Rattle.kernel_bench.proofs.masks.squares.Goals as goal

pub loop-k-preserved : goal.loop-k-preserved
loop-k-preserved c = rw c.in_ok-push.ensures.items (All-push IsPlaceableMask c.loop-k.parts.items _ c.loop-k.invariant c.in_ok-part.ensures)
