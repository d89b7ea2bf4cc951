use Rattle.std.specs.Arc.{arc_value}
use Rattle.std.proofs.Common.{IsSome, ap, sym, subst, arith, length}
use Rattle.evict_core.specs.Machine.{Ready, flying, maker_in, status_of}
use Rattle.evict_core.proofs.FlyingLemmas.{flying-filled, some-flying}
use Rattle.evict_core.proofs.SumLemmas.{length-to_front}
use Rattle.evict_core.proofs.entries.Entries.fill.Goals as goal

pub overflow_sub-self : goal.overflow_sub-self
overflow_sub-self g c =
    let made = subst (λ s. IsSome (maker_in (status_of g.K.PartialEq.eq s c.args.key.now))) (sym c.self.view_is) c.requires.flying in
    omega (arith, c.self.invariant.2, some-flying (g.K.PartialEq.eq c.args.key.now) c.self.inside.list made)

pub invariant_of-self : goal.invariant_of-self
invariant_of-self g c =
    let made = subst (λ s. IsSome (maker_in (status_of g.K.PartialEq.eq s c.args.key.now))) (sym c.self.view_is) c.requires.flying in (
      omega (arith, ap length c.fill.ensures, length-to_front (g.K.PartialEq.eq c.args.key.now) (λ _. Ready 1 c.args.cost (arc_value c.args.value)) c.self.inside.list, c.self.invariant.0),
      c.self.invariant.1,
      omega (arith, ap flying c.fill.ensures, flying-filled (g.K.PartialEq.eq c.args.key.now) c.self.inside.list c.args.cost (arc_value c.args.value) made, c.self.invariant.2),
      c.self.invariant.3,
    )
