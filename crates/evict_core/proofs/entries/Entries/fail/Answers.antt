use Rattle.std.proofs.Common.{IsSome, ap, sym, subst, arith, length}
use Rattle.evict_core.specs.Machine.{flying, maker_in, status_of}
use Rattle.evict_core.proofs.FlyingLemmas.{flying-removed, some-flying}
use Rattle.evict_core.proofs.SumLemmas.{length-remove}
use Rattle.evict_core.proofs.entries.Entries.fail.Goals as goal

pub overflow_sub-self : goal.overflow_sub-self
overflow_sub-self g c =
    let made = subst (λ s. IsSome (maker_in (status_of g.K.PartialEq.eq s c.args.key.now))) (sym c.self.view_is) c.requires in
    omega (arith, c.self.invariant.2, some-flying (g.K.PartialEq.eq c.args.key.now) c.self.inside.list made)

pub invariant_of-self : goal.invariant_of-self
invariant_of-self g c =
    let made = subst (λ s. IsSome (maker_in (status_of g.K.PartialEq.eq s c.args.key.now))) (sym c.self.view_is) c.requires in (
      omega (arith, ap length c.remove.ensures, length-remove (g.K.PartialEq.eq c.args.key.now) c.self.inside.list, c.self.invariant.0),
      c.self.invariant.1,
      omega (arith, ap flying c.remove.ensures, flying-removed (g.K.PartialEq.eq c.args.key.now) c.self.inside.list made, c.self.invariant.2),
      c.self.invariant.3,
    )
