use Rattle.std.proofs.Common.{refl}
use Rattle.mask_caches.proofs.Adding.{adds-none, adds-unpin}
use Rattle.mask_caches.proofs.lease.give_back.Goals as goal

pub unpin-requires-clause-own : goal.unpin-requires-clause-own
unpin-requires-clause-own g c = rw c.in-Pinned.is at c.requires.own

pub unpin-requires-clause-held : goal.unpin-requires-clause-held
unpin-requires-clause-held g c = rw c.in-Pinned.is at c.requires.held

pub returns-in-Pinned : goal.returns-in-Pinned
returns-in-Pinned g c = record {
  steps = rw c.in-Pinned.is (adds-unpin g.M.Key.PartialEq.eq g.met.M.Made.same_key g.M.Made.meaning c.args.cache.now c.in-Pinned.pin.key c.args.pass c.unpin.result (c.unpin.ensures.unpin, c.unpin.ensures.others));
  own = rw c.in-Pinned.is (λ no. cc);
}

pub returns-in-Own : goal.returns-in-Own
returns-in-Own g c = record {
  steps = rw c.in-Own.is (adds-none g.M.Key.PartialEq.eq g.M.Made.meaning c.args.cache.now c.args.pass);
  own = rw c.in-Own.is (λ is. refl);
}
