use Rattle.std.proofs.Common.{◌≡◌, ◌+◌, ap, ◌∙◌, subst, arith}
use Rattle.evict_core.specs.Machine.{is_held, has_space, unpinned, pinned}
use Rattle.evict_core.proofs.FlyingLemmas.{flying-few}
use Rattle.evict_core.proofs.entries.Entries.has_space.Goals as goal

pub overflow_add-self-inside : goal.overflow_add-self-inside
overflow_add-self-inside g c = omega (arith, c.self.invariant.0, c.self.invariant.2, flying-few c.self.inside.list)

pub returns : goal.returns
returns g c =
    subst (λ s. c.is_held.result ≡ has_space s) c.self.view_is
    (c.is_held.ensures ∙ (ap (λ n. is_held c.self.inside.hard n (c.self.inside.makings + 1)) c.cost.ensures.cost ∙ ap (λ n. is_held c.self.inside.hard (unpinned c.self.inside.list + pinned c.self.inside.list) (n + 1)) c.self.invariant.2))
