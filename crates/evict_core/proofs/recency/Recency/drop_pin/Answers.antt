use Rattle.std.proofs.Common.{sym, ap, ◌∙◌, refl}
use Rattle.evict_core.specs.Machine.{one_pin_less}
use Rattle.evict_core.specs.Places.{stored_status}
use Rattle.evict_core.specs.Recency.{change}
use Rattle.evict_core.proofs.WriteLemmas.{no-gap, ties-there, shown-there, there-none}
use Rattle.evict_core.proofs.recency.Recency.drop_pin.Goals as goal

pub invariant_of-self : goal.invariant_of-self
invariant_of-self g c =
    (ties-there (λ p. p.index) (λ p. stored_status p.stored) g.K.PartialEq.eq g.met.K.Eq.laws _ _ _ c.self.invariant.0 c.args.key.now c.in-Some.number.now c.in-Some.ensures.value _ _ c.in-Some-peek_mut.ensures.value refl, c.self.invariant.1)

pub returns-in-Some-peek_mut : goal.returns-in-Some-peek_mut
returns-in-Some-peek_mut g c =
    shown-there (λ p. p.index) (λ p. stored_status p.stored) g.K.PartialEq.eq g.met.K.Eq.laws _ _ _ c.self.invariant.0 c.args.key.now c.in-Some.number.now c.in-Some.ensures.value _ _ c.in-Some-peek_mut.ensures.value refl one_pin_less c.drop_pin.ensures
    ∙ ap (change (g.K.PartialEq.eq c.args.key.now) one_pin_less) c.self.view_is

pub returns-in_default-peek_mut : goal.returns-in_default-peek_mut
returns-in_default-peek_mut g c = no-gap (λ p. p.index) (λ p. stored_status p.stored) g.K.PartialEq.eq g.met.K.Eq.laws _ _ _ c.self.invariant.0 c.args.key.now c.in-Some.number.now c.in-Some.ensures.value c.in_default-peek_mut.ensures.value

pub returns-in_default : goal.returns-in_default
returns-in_default g c =
    sym c.self.view_is ∙ (there-none (λ p. p.index) (λ p. stored_status p.stored) g.K.PartialEq.eq g.met.K.Eq.laws _ _ _ c.self.invariant.0 c.args.key.now c.in_default.ensures.value one_pin_less ∙ ap (change (g.K.PartialEq.eq c.args.key.now) one_pin_less) c.self.view_is)
