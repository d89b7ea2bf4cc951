use Rattle.std.proofs.Common.{◌<◌, ◌≤◌, length, refl, sym, ap, ◌∙◌, subst, arith}
use Rattle.std.specs.Map.{lookup}
use Rattle.std.specs.Option.{IsSome}
use Rattle.evict_core.specs.Asked.{ready_pins}
use Rattle.evict_core.specs.Machine.{max_pins, pins_in, one_pin_more, flying}
use Rattle.evict_core.proofs.SumLemmas.{length-to_front}
use Rattle.evict_core.proofs.LookLemmas.{full-crowds, short-hits}
use Rattle.evict_core.proofs.FlyingLemmas.{flying-pinned}
use Rattle.evict_core.proofs.entries.Entries.ask.Goals as goal

pub invariant_of-self : goal.invariant_of-self
invariant_of-self g c = (
  omega (arith, ap length c.in-Pinned.ensures.list, length-to_front (g.K.PartialEq.eq c.args.key.now) one_pin_more c.self.inside.list, c.self.invariant.0),
  c.self.invariant.1,
  c.self.invariant.2 ∙ sym (ap flying c.in-Pinned.ensures.list ∙ flying-pinned (g.K.PartialEq.eq c.args.key.now) c.self.inside.list),
  c.self.invariant.3,
)

pub returns-in-Full : goal.returns-in-Full
returns-in-Full g c =
    let is = ap (λ s. lookup (g.K.PartialEq.eq c.args.key.now) s.entries) c.self.view_is in (
      full-crowds c.args.self.now _ (subst (λ o. max_pins ≤ pins_in o) is c.in-Full.ensures.look),
      λ number. rw (← c.self.view_is) (rw c.in-Full.ensures.list at (c.refuse.ensures c.args.key.now number)),
    )

pub returns-in-OutOfMemory : goal.returns-in-OutOfMemory
returns-in-OutOfMemory g c =
    let is = ap (λ s. lookup (g.K.PartialEq.eq c.args.key.now) s.entries) c.self.view_is in
    let look = c.in-OutOfMemory.ensures.look in (
      short-hits c.args.self.now _ (subst (λ o. IsSome (ready_pins o)) is look.0) (subst (λ o. pins_in o < max_pins) is look.1),
      rw (← c.self.view_is, c.in-OutOfMemory.ensures.list) refl,
    )
