use Rattle.std.proofs.Common.{vec_len}
use Rattle.mask_caches.specs.Caches.{IsPassOf}
use Rattle.renderer.specs.ShownFrames.{leases_of}
use Rattle.renderer.specs.Holding.{HoldsLeases, AreHome}
use Rattle.renderer.proofs.GivenLeases.{AreReleased}
use Rattle.renderer.proofs.releasing.release_images.Given as goal

abbrev pub invariant-loop-image : goal.invariant-loop-image
invariant-loop-image g l = record {
  of : IsPassOf l.caches l.pass;
  homes : AreHome l.caches (leases_of l.images.items);
  held : HoldsLeases l.caches l.pass (leases_of l.images.items);
  released : AreReleased l.caches l.fn.pass l.pass l.fn.images.items l.images.items;
}

abbrev pub decreases-loop-image : goal.decreases-loop-image
decreases-loop-image g l = vec_len l.images
