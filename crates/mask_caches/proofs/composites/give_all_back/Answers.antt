use Rattle.cache_kinds.specs.Kinds.{mask_meaning}
use Rattle.mask_keys.specs.Equality.{equal_masks}
use Rattle.mask_keys.specs.contracts.mask_key.MaskKeyEq.TheImpl.Laws as mask_laws
use Rattle.mask_caches.proofs.Adding.{adds-stays}
use Rattle.mask_caches.proofs.Releasing.{released-held, released-more, released-none}
use Rattle.mask_caches.specs.Leases.{IsHomeLease}
use Rattle.mask_caches.proofs.Homes.{last-home}
use Rattle.mask_caches.proofs.composites.give_all_back.Goals as goal

pub loop-lease-init : goal.loop-lease-init
loop-lease-init g c = (c.requires.cell, released-none equal_masks mask_laws.laws-law mask_meaning c.args.cache.now c.args.pass c.args.leases.items, c.requires.own)

pub give_back-pass-requires-clause-own : goal.give_back-pass-requires-clause-own
give_back-pass-requires-clause-own g c = (last-home (IsHomeLease mask_meaning c.args.cache.now) c.loop-lease.leases.items c.pop.new.self.items c.in-Some.lease c.in-Some.ensures.items c.loop-lease.invariant.2).1

pub give_back-pass-requires-clause-held : goal.give_back-pass-requires-clause-held
give_back-pass-requires-clause-held g c =
    released-held equal_masks mask_laws.laws-law mask_meaning c.args.cache.now c.args.pass c.args.leases.items c.loop-lease.pass c.loop-lease.leases.items c.pop.new.self.items c.in-Some.lease c.in-Some.ensures.items c.loop-lease.invariant.1 c.requires.held

pub loop-lease-preserved : goal.loop-lease-preserved
loop-lease-preserved g c = (
  adds-stays equal_masks mask_meaning c.args.cache.now c.loop-lease.pass c.give_back-pass.result _ c.loop-lease.invariant.0 c.give_back-pass.ensures.steps,
  released-more equal_masks mask_laws.laws-law mask_meaning c.args.cache.now c.args.pass c.args.leases.items c.loop-lease.pass c.give_back-pass.result c.loop-lease.leases.items c.pop.new.self.items c.in-Some.lease c.in-Some.ensures.items c.loop-lease.invariant.1 c.give_back-pass.ensures.steps,
  (last-home (IsHomeLease mask_meaning c.args.cache.now) c.loop-lease.leases.items c.pop.new.self.items c.in-Some.lease c.in-Some.ensures.items c.loop-lease.invariant.2).0,
)
