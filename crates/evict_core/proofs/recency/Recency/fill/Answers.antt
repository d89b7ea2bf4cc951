use Rattle.std.proofs.Common.{sym, ap, ◌∙◌, refl}
use Rattle.std.specs.Arc.{arc_value}
use Rattle.evict_core.specs.Machine.{Ready}
use Rattle.evict_core.specs.Places.{stored_status}
use Rattle.evict_core.specs.Recency.{to_front}
use Rattle.evict_core.proofs.WriteLemmas.{no-gap, ties-front, shown-front, front-none}
use Rattle.evict_core.proofs.recency.Recency.fill.Goals as goal

pub invariant_of-self : goal.invariant_of-self
invariant_of-self g c =
    (ties-front (λ p. p.index) (λ p. stored_status p.stored) g.K.PartialEq.eq g.met.K.Eq.laws _ _ _ c.self.invariant.0 c.args.key.now c.in-Some.number.now c.in-Some.ensures.value _ _ c.in-Some-get_mut.ensures.value refl, c.self.invariant.1)

pub returns-in-Some-get_mut : goal.returns-in-Some-get_mut
returns-in-Some-get_mut g c =
    shown-front (λ p. p.index) (λ p. stored_status p.stored) g.K.PartialEq.eq g.met.K.Eq.laws _ _ _ c.self.invariant.0 c.args.key.now c.in-Some.number.now c.in-Some.ensures.value _ _ c.in-Some-get_mut.ensures.value refl (λ _. Ready 1 c.args.cost (arc_value c.args.value)) c.fill.ensures
    ∙ ap (to_front (g.K.PartialEq.eq c.args.key.now) (λ _. Ready 1 c.args.cost (arc_value c.args.value))) c.self.view_is

pub returns-in_default-get_mut : goal.returns-in_default-get_mut
returns-in_default-get_mut g c = no-gap (λ p. p.index) (λ p. stored_status p.stored) g.K.PartialEq.eq g.met.K.Eq.laws _ _ _ c.self.invariant.0 c.args.key.now c.in-Some.number.now c.in-Some.ensures.value c.in_default-get_mut.ensures.value

pub returns-in_default : goal.returns-in_default
returns-in_default g c =
    sym c.self.view_is ∙ (front-none (λ p. p.index) (λ p. stored_status p.stored) g.K.PartialEq.eq g.met.K.Eq.laws _ _ _ c.self.invariant.0 c.args.key.now c.in_default.ensures.value (λ _. Ready 1 c.args.cost (arc_value c.args.value)) ∙ ap (to_front (g.K.PartialEq.eq c.args.key.now) (λ _. Ready 1 c.args.cost (arc_value c.args.value))) c.self.view_is)
