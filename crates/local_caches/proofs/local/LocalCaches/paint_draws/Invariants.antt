use Rattle.std.proofs.Common.{◌≡◌, take}
use Rattle.std.specs.List.{fold}
use Rattle.mask_keys.specs.Pictures.{with_draw}
use Rattle.local_caches.proofs.local.LocalCaches.paint_draws.Given as goal

abbrev pub invariant-loop-draw : goal.invariant-loop-draw
invariant-loop-draw l = record {
  painted : l.canvas ≡ fold (with_draw l.fn.self.fonts) l.fn.canvas (take l.draw-index l.draws);
  fonts : l.self.fonts ≡ l.fn.self.fonts;
  budget : l.self.budget ≡ l.fn.self.budget;
}
