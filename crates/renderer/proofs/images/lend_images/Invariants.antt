use Rattle.std.proofs.Common.{◌≡◌, ◌≤◌, length, take, vec_len}
use Rattle.std.specs.Vec.{vec_capacity}
use Rattle.std.specs.Arc.{arc_value}
use Rattle.mask_caches.specs.Caches.{IsPassOf}
use Rattle.renderer.proofs.Lending.{AreLent}
use Rattle.renderer.proofs.images.lend_images.Given as goal

abbrev pub invariant-loop-draw : goal.invariant-loop-draw
invariant-loop-draw g l = record {
  len : vec_len l.images ≡ l.draw-index;
  room : length l.draw-items ≤ vec_capacity l.images;
  of : IsPassOf l.caches l.pass;
  had : AreLent l.caches (arc_value l.caches.fonts).fonts l.fn.pass l.pass (take l.draw-index l.draw-items) l.images.items;
}
