use Rattle.mask_caches.proofs.Rings.{no-ring}
use Rattle.mask_caches.proofs.wait_laws.no_ring.Goals as goal

pub returns : goal.returns
returns c = no-ring
