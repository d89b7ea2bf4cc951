use Rattle.mask_caches.proofs.Homes.{own-home}
use Rattle.mask_caches.proofs.Adding.{adds-none}
use Rattle.mask_caches.proofs.lending.settle.Goals as goal

pub settle_ticket-requires-clause-claimed : goal.settle_ticket-requires-clause-claimed
settle_ticket-requires-clause-claimed g c = rw c.in-Some.is at c.requires.claimed

pub settle_ticket-requires-clause-value : goal.settle_ticket-requires-clause-value
settle_ticket-requires-clause-value g c = rw c.in-Some.is at c.requires.value

pub settle_ticket-requires-clause-own : goal.settle_ticket-requires-clause-own
settle_ticket-requires-clause-own g c = rw c.in-Some.is at c.requires.own

pub returns-in-Some : goal.returns-in-Some
returns-in-Some g c = record { steps = rw c.in-Some.is c.settle_ticket.ensures.steps; settled = rw c.in-Some.is c.settle_ticket.ensures.settled; home = c.settle_ticket.ensures.home }

pub returns-in-None : goal.returns-in-None
returns-in-None g c = record { steps = rw c.in-None.is (adds-none g.M.Key.PartialEq.eq g.M.Made.meaning c.args.cache.now c.args.pass); settled = rw c.in-None.is c.own.ensures; home = own-home g.M.Made.meaning c.args.cache.now c.args.made c.own.result c.own.ensures }
