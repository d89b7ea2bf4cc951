use Rattle.std.proofs.Common.{ap, arith, length}
use Rattle.evict_core.specs.Machine.{flying}
use Rattle.evict_core.proofs.FlyingLemmas.{flying-few}
use Rattle.evict_core.proofs.entries.Entries.claim_free.Goals as goal

pub overflow_add-self : goal.overflow_add-self
overflow_add-self g c = omega (arith, c.self.invariant.0, c.self.invariant.2, flying-few c.self.inside.list)

pub invariant_of-self-2 : goal.invariant_of-self-2
invariant_of-self-2 g c =
    let put = c.in_ok-insert.ensures.ok in (
      omega (arith, ap length put, c.requires.room, ap (λ s. length s.entries) c.self.view_is, ap (λ s. s.limit) c.self.view_is, c.self.invariant.1),
      c.self.invariant.1,
      omega (arith, ap flying put, c.self.invariant.2),
      c.self.invariant.3,
    )
