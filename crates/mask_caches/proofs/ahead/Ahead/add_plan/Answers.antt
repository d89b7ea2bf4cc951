use Rattle.std.proofs.Common.{All, sym, subst, arith}
use Rattle.mask_keys.specs.Keys.{IsValidComposite}
use Rattle.mask_caches.specs.Aheads.{AheadView}
use Rattle.mask_keys.specs.PlanKeys.{plan_keys}
use Rattle.mask_caches.proofs.Firsts.{added-distinct, added-firsts, added-grows, added-valid}
use Rattle.mask_caches.proofs.ahead.Ahead.add_plan.Goals as goal

pub overflow_sub-result : goal.overflow_sub-result
overflow_sub-result c =
    let grows = added-grows c.self.inside.keys.keys c.add_draws.new.known.keys (plan_keys c.as_slice.result.now) c.in-Ok.ensures.ok in
    omega (arith, c.len-before.ensures.len, c.len.ensures.len)

pub invariant_of-self : goal.invariant_of-self
invariant_of-self c =
    let grows = added-grows c.self.inside.keys.keys c.add_draws.new.known.keys (plan_keys c.as_slice.result.now) c.in-Ok.ensures.ok in
    let within = c.self.invariant.within in
    record {
      distinct = added-distinct c.self.inside.keys.keys c.add_draws.new.known.keys (plan_keys c.as_slice.result.now) c.in-Ok.ensures.ok c.self.invariant.distinct;
      within = omega arith;
    }

pub returns-in-Ok-clause-keys : goal.returns-in-Ok-clause-keys
returns-in-Ok-clause-keys c =
    rw (← c.self.view_is, ← c.as_slice.ensures) (added-firsts c.self.inside.keys.keys c.add_draws.new.known.keys (plan_keys c.as_slice.result.now) c.in-Ok.ensures.ok c.self.invariant.distinct)

pub returns-in-Ok-clause-added : goal.returns-in-Ok-clause-added
returns-in-Ok-clause-added c =
    let grows = added-grows c.self.inside.keys.keys c.add_draws.new.known.keys (plan_keys c.as_slice.result.now) c.in-Ok.ensures.ok in
    rw (← c.self.view_is) (omega (arith, c.len-before.ensures.len, c.len.ensures.len))

pub returns-in-Ok-clause-valid : goal.returns-in-Ok-clause-valid
returns-in-Ok-clause-valid c glyphs had valid =
    let is = added-firsts c.self.inside.keys.keys c.add_draws.new.known.keys (plan_keys c.as_slice.result.now) c.in-Ok.ensures.ok c.self.invariant.distinct in
    let held : All (IsValidComposite glyphs) c.self.inside.keys.keys = subst (λ (ahead : AheadView). All (IsValidComposite glyphs) ahead.keys) (sym c.self.view_is) had in
    added-valid glyphs c.self.inside.keys.keys c.add_draws.new.known.keys c.as_slice.result.now is held (rw c.as_slice.ensures valid)
