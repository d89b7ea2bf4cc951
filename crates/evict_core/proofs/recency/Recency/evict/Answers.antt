use Rattle.std.proofs.Common.{sym, ap, ◌∙◌, true≢false, ◌+◌}
use Rattle.evict_core.specs.Machine.{has_idle, is_idle, unpinned}
use Rattle.evict_core.specs.Recency.{without_last}
use Rattle.evict_core.proofs.EvictLemmas.{idle-places, entries-evicted, cost-evicted}
use Rattle.evict_core.proofs.recency.Recency.evict.Goals as goal

pub invariant_of-self : goal.invariant_of-self
invariant_of-self g c = c.take_out.ensures.tied c.self.inside.next c.self.invariant

pub returns-in_default : goal.returns-in_default
returns-in_default g c = absurd (true≢false (sym c.requires ∙ (ap has_idle (sym c.self.view_is) ∙ (idle-places g.K.PartialEq.eq _ _ _ c.self.invariant.0 ∙ c.in_default.ensures.none))))

pub returns-clause-entries : goal.returns-clause-entries
returns-clause-entries g c =
    c.take_out.ensures.shown c.self.inside.next c.self.invariant ∙ (entries-evicted g.K.PartialEq.eq _ _ _ c.self.invariant.0 _ _ c.in-Some.ensures.found ∙ ap (without_last is_idle) c.self.view_is)

pub returns-clause-cost : goal.returns-clause-cost
returns-clause-cost g c =
    let cost = cost-evicted g.K.PartialEq.eq _ _ _ c.self.invariant.0 _ _ c.in-Some.ensures.found in
    let old = ap unpinned (sym c.self.view_is) in
    let left = ap unpinned (c.take_out.ensures.shown c.self.inside.next c.self.invariant) in
    old ∙ (cost ∙ ap (λ n. c.in-Some.cost + n) (sym left))
