use Rattle.std.proofs.Common.{◌≡◌, ◌<◌, length, get_or, None, refl, sym, ap, ◌∙◌, subst}
use Rattle.std.specs.Arc.{arc_value}
use Rattle.mask_keys.specs.Outlines.{glyph_counts}
use Rattle.world_core.specs.Caches.{ActorCachesView, filled}
use Rattle.world_core.specs.Holdings.{holding_place}
use Rattle.world_core.specs.declared.holding.Holding.{Holding}
use Rattle.world_core.specs.Keys.{IsValidWorldKey, equal_world_keys, world_meaning, world_value}
use Rattle.world_core.specs.Tellings.{AreWorldCaches, WorldTag}
use Rattle.world_core.specs.declared.world_keys.WorldKey.{WorldKey}
use Rattle.world_core.specs.declared.world_keys.WorldValue.{WorldValue}
use Rattle.world_core.proofs.Holdings.{at-kept, at-made, at-none, done-found, done-none}
use Rattle.world_core.proofs.Shards.{caches-filled, caches-same, valid-at, value-at}
use Rattle.world_core.proofs.Costs.{cost-most}
use Rattle.world_core.proofs.caching.fill.Goals as goal

pub made_value-requires-clause-key : goal.made_value-requires-clause-key
made_value-requires-clause-key c =
    let tickets = c.args.caches.now.tickets in
    let ticket = c.index-tickets-place.result in
    let below : c.in-Some.place < length tickets = rw c.tickets-tickets.ensures at c.in-Some.ensures.within in
    let is : ticket ≡ get_or tickets c.in-Some.place ticket = rw c.tickets-tickets.ensures at c.index-tickets-place.is in
    rw c.deref.ensures
    (subst (λ (h : Holding WorldKey). IsValidWorldKey (glyph_counts (arc_value c.args.fonts.now).fonts) h.key) c.index-tickets-place.is (valid-at c.args.fonts.now c.args.caches.now c.requires.caches c.in-Some.place ticket below is))

pub fill-requires-clause-place : goal.fill-requires-clause-place
fill-requires-clause-place c = rw c.tickets-tickets.ensures at c.in-Some.ensures.within

pub fill-requires-clause-value : goal.fill-requires-clause-value
fill-requires-clause-value c =
    let tickets = c.args.caches.now.tickets in
    let ticket = c.index-tickets-place.result in
    let below : c.in-Some.place < length tickets = rw c.tickets-tickets.ensures at c.in-Some.ensures.within in
    let is : ticket ≡ get_or tickets c.in-Some.place ticket = rw c.tickets-tickets.ensures at c.index-tickets-place.is in
    let made : arc_value c.in_ok-new.field-0 ≡ world_value (arc_value c.args.fonts.now).fonts ticket.key =
    c.in_ok-new.ensures.ok ∙ ((rw c.deref.ensures at c.in_ok-value.ensures) ∙ ap (λ (h : Holding WorldKey). world_value (arc_value c.args.fonts.now).fonts h.key) (sym c.index-tickets-place.is)) in
    value-at c.args.fonts.now c.args.caches.now c.requires.caches c.in-Some.place ticket (arc_value c.in_ok-new.field-0) below is made

pub fill-requires-clause-cost : goal.fill-requires-clause-cost
fill-requires-clause-cost c = cost-most _

pub returns-clause-reply : goal.returns-clause-reply
returns-clause-reply c = done-found (holding_place c.args.actor c.args.i c.args.caches.now.tickets) c.in-Some.place (rw c.tickets-tickets.ensures at (sym c.in-Some.ensures.place))

pub returns-clause-state : goal.returns-clause-state
returns-clause-state c =
    at-made c.args.caches.now.tickets (filled equal_world_keys world_meaning) (holding_place c.args.actor c.args.i c.args.caches.now.tickets) c.args.caches.now c.fill.new.self c.in-Some.place (rw c.tickets-tickets.ensures at c.in-Some.ensures.within)
    c.in_ok-fill.ensures.ok (rw c.tickets-tickets.ensures at (sym c.in-Some.ensures.place))

pub returns-clause-caches : goal.returns-clause-caches
returns-clause-caches c =
    at-kept c.args.caches.now.tickets (filled equal_world_keys world_meaning) None c.args.caches.now c.fill.new.self c.in-Some.place (rw c.tickets-tickets.ensures at c.in-Some.ensures.within) c.in_ok-fill.ensures.ok
    (λ (s : ActorCachesView WorldKey WorldValue WorldTag). AreWorldCaches c.args.fonts.now s) (λ (h : Holding WorldKey). caches-filled c.args.fonts.now c.args.caches.now c.requires.caches c.in-Some.place h)

pub returns-in_err-fill-clause-caches : goal.returns-in_err-fill-clause-caches
returns-in_err-fill-clause-caches c = caches-same c.args.fonts.now c.args.caches.now c.fill.new.self c.in_err-fill.ensures.err c.requires.caches

pub returns-in_default-clause-reply : goal.returns-in_default-clause-reply
returns-in_default-clause-reply c = done-none (holding_place c.args.actor c.args.i c.args.caches.now.tickets) (rw c.tickets-tickets.ensures at (sym c.in_default.ensures.place))

pub returns-in_default-clause-state : goal.returns-in_default-clause-state
returns-in_default-clause-state c =
    at-none c.args.caches.now.tickets (filled equal_world_keys world_meaning) (holding_place c.args.actor c.args.i c.args.caches.now.tickets) c.args.caches.now c.args.caches.now (rw c.tickets-tickets.ensures at (sym c.in_default.ensures.place)) refl
