use Rattle.std.proofs.Common.{◌≡◌, ◌+◌, ap, ◌∙◌, subst}
use Rattle.evict_core.specs.Machine.{is_held, holds_all, unpinned, pinned}
use Rattle.evict_core.proofs.entries.Entries.holds.Goals as goal

pub returns : goal.returns
returns g c =
    subst (λ s. c.is_held.result ≡ holds_all c.args.hard s.entries) c.self.view_is
    (c.is_held.ensures ∙ (ap (λ n. is_held c.args.hard n c.self.inside.makings) c.cost.ensures.cost ∙ ap (is_held c.args.hard (unpinned c.self.inside.list + pinned c.self.inside.list)) c.self.invariant.2))
