use Rattle.std.proofs.Common.{sym, subst}
use Rattle.evict_core.specs.Places.{is_idle_place}
use Rattle.evict_core.proofs.Searching.{Searched, searched-none, searched-all, shorter}
use Rattle.evict_core.proofs.recency.oldest_idle.Goals as goal

pub loop-number-init : goal.loop-number-init
loop-number-init g c = subst (Searched is_idle_place c.args.order.now.entries) (sym c.iter-rest.ensures.rest) (searched-none is_idle_place c.args.order.now.entries)

pub loop-number-smaller : goal.loop-number-smaller
loop-number-smaller g c = shorter _ _ _ c.in-Some.ensures.steps

pub returns-clause-none : goal.returns-clause-none
returns-clause-none g c = searched-all is_idle_place _ _ c.loop-number.invariant c.in_default.ensures.steps.0
