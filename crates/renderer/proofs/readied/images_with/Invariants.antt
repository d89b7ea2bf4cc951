use Rattle.std.proofs.Common.{◌≡◌, ◌≤◌, ◌++◌, length, reverse, take, vec_len}
use Rattle.std.specs.Vec.{vec_capacity}
use Rattle.renderer.specs.ShownFrames.{leases_of}
use Rattle.renderer.proofs.ReadyImages.{AreReady}
use Rattle.renderer.proofs.readied.images_with.Given as goal

abbrev pub invariant-loop-draw : goal.invariant-loop-draw
invariant-loop-draw l = record {
  len : vec_len l.images ≡ l.draw-index;
  room : length l.draw-items ≤ vec_capacity l.images;
  ready : AreReady (take l.draw-index l.draw-items) l.images.items;
  split : leases_of l.images.items ++ reverse l.leases.items ≡ l.fn.leases.items;
}
