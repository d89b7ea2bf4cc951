use Rattle.std.proofs.Common.{None, refl, sym}
use Rattle.world_core.specs.Caches.{ActorCachesView, failed}
use Rattle.world_core.specs.Holdings.{holding_place}
use Rattle.world_core.specs.declared.holding.Holding.{Holding}
use Rattle.world_core.specs.Keys.{equal_world_keys}
use Rattle.world_core.specs.Tellings.{AreWorldCaches, WorldTag}
use Rattle.world_core.specs.declared.world_keys.WorldKey.{WorldKey}
use Rattle.world_core.specs.declared.world_keys.WorldValue.{WorldValue}
use Rattle.world_core.proofs.Holdings.{at-kept, at-made, at-none, done-found, done-none}
use Rattle.world_core.proofs.Shards.{caches-failed}
use Rattle.world_core.proofs.caching.fail.Goals as goal

pub fail-requires : goal.fail-requires
fail-requires c = rw c.tickets.ensures at c.in-Some.ensures.within

pub returns-clause-reply : goal.returns-clause-reply
returns-clause-reply c = done-found (holding_place c.args.actor c.args.i c.args.caches.now.tickets) c.in-Some.place (rw c.tickets.ensures at (sym c.in-Some.ensures.place))

pub returns-clause-state : goal.returns-clause-state
returns-clause-state c =
    at-made c.args.caches.now.tickets (failed equal_world_keys) (holding_place c.args.actor c.args.i c.args.caches.now.tickets) c.args.caches.now c.fail.new.self c.in-Some.place (rw c.tickets.ensures at c.in-Some.ensures.within) c.fail.ensures
    (rw c.tickets.ensures at (sym c.in-Some.ensures.place))

pub returns-clause-caches : goal.returns-clause-caches
returns-clause-caches c =
    at-kept c.args.caches.now.tickets (failed equal_world_keys) None c.args.caches.now c.fail.new.self c.in-Some.place (rw c.tickets.ensures at c.in-Some.ensures.within) c.fail.ensures
    (λ (s : ActorCachesView WorldKey WorldValue WorldTag). AreWorldCaches c.args.fonts.now s) (λ (h : Holding WorldKey). caches-failed c.args.fonts.now c.args.caches.now c.requires c.in-Some.place h)

pub returns-in_default-clause-reply : goal.returns-in_default-clause-reply
returns-in_default-clause-reply c = done-none (holding_place c.args.actor c.args.i c.args.caches.now.tickets) (rw c.tickets.ensures at (sym c.in_default.ensures.place))

pub returns-in_default-clause-state : goal.returns-in_default-clause-state
returns-in_default-clause-state c = at-none c.args.caches.now.tickets (failed equal_world_keys) (holding_place c.args.actor c.args.i c.args.caches.now.tickets) c.args.caches.now c.args.caches.now (rw c.tickets.ensures at (sym c.in_default.ensures.place)) refl
