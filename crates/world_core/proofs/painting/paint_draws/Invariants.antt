use Rattle.std.proofs.Common.{◌≡◌, take}
use Rattle.std.specs.Arc.{arc_value}
use Rattle.std.specs.List.{fold}
use Rattle.mask_keys.specs.Pictures.{with_draw}
use Rattle.world_core.specs.Replies.{HoldsAll}
use Rattle.world_core.proofs.painting.paint_draws.Given as goal

abbrev pub invariant-loop-draw : goal.invariant-loop-draw
invariant-loop-draw l = record {
  painted : l.canvas ≡ fold (with_draw (arc_value l.caches.tag).fonts) l.fn.canvas (take l.draw-index l.draws);
  held : HoldsAll l.caches l.actor (take l.draw-index l.draws);
}
