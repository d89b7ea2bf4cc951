use Rattle.mask_caches.proofs.lending.settle_ticket.Goals as goal

pub fill-requires-clause-value : goal.fill-requires-clause-value
fill-requires-clause-value g c = rw c.in-Ok.is at c.requires.value

pub fill-requires-clause-cost : goal.fill-requires-clause-cost
fill-requires-clause-cost g c = rw c.in-Ok.is at c.requires.cost

pub returns-in-Ok : goal.returns-in-Ok
returns-in-Ok g c = record { steps = c.fill.ensures.steps; settled = rw c.in-Ok.is c.fill.ensures.settled; home = c.fill.ensures.home }

pub returns-in-Err : goal.returns-in-Err
returns-in-Err g c = record { steps = c.fail-pass.ensures; settled = rw c.in-Err.is tt; home = tt }
