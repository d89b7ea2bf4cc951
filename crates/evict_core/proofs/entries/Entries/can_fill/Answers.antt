use Rattle.std.proofs.Common.{◌≡◌, ◌+◌, ◌-◌, ap, ◌∙◌, subst, arith}
use Rattle.evict_core.specs.Machine.{is_held, can_fill, unpinned, pinned}
use Rattle.evict_core.proofs.entries.Entries.can_fill.Goals as goal

pub overflow_add-cost : goal.overflow_add-cost
overflow_add-cost g c = omega (arith, c.cost.ensures.most, c.requires)

pub returns : goal.returns
returns g c =
    subst (λ s. c.is_held.result ≡ can_fill s c.args.cost) c.self.view_is
    (c.is_held.ensures ∙ (ap (is_held c.self.inside.hard (c.cost.result + c.args.cost)) c.saturating_sub.ensures
    ∙ ap (λ n. is_held c.self.inside.hard (n + c.args.cost) (c.self.inside.makings - 1)) c.cost.ensures.cost
    ∙ ap (λ n. is_held c.self.inside.hard (unpinned c.self.inside.list + pinned c.self.inside.list + c.args.cost) (n - 1)) c.self.invariant.2))
