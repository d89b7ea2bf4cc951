use Rattle.std.proofs.Common.{◌<◌, sym, ap, ◌∙◌, subst, option_map, refl}
use Rattle.std.specs.Map.{lookup}
use Rattle.evict_core.specs.Machine.{max_pins, pins_in, one_pin_more}
use Rattle.evict_core.specs.Places.{stored_status}
use Rattle.evict_core.specs.Recency.{to_front}
use Rattle.evict_core.proofs.TieLemmas.{lookup-found}
use Rattle.evict_core.proofs.WriteLemmas.{no-gap, ties-front, shown-front, front-none}
use Rattle.evict_core.proofs.recency.Recency.add_pin.Goals as goal

pub add_pin-requires : goal.add_pin-requires
add_pin-requires g c =
    let found = lookup-found (λ p. p.index) (λ p. stored_status p.stored) g.K.PartialEq.eq g.met.K.Eq.laws _ _ _ c.self.invariant.0 c.args.key.now c.in-Some.number.now (sym c.in-Some.ensures.value) in
    let here = found ∙ ap (option_map (λ p. stored_status p.stored)) (sym c.in-Some-get_mut.ensures.value) in
    let is = ap (lookup (g.K.PartialEq.eq c.args.key.now)) (sym c.self.view_is) ∙ here in
    subst (λ o. pins_in o < max_pins) is c.requires

pub invariant_of-self : goal.invariant_of-self
invariant_of-self g c =
    (ties-front (λ p. p.index) (λ p. stored_status p.stored) g.K.PartialEq.eq g.met.K.Eq.laws _ _ _ c.self.invariant.0 c.args.key.now c.in-Some.number.now c.in-Some.ensures.value _ _ c.in-Some-get_mut.ensures.value refl, c.self.invariant.1)

pub returns-in-Some-get_mut : goal.returns-in-Some-get_mut
returns-in-Some-get_mut g c =
    shown-front (λ p. p.index) (λ p. stored_status p.stored) g.K.PartialEq.eq g.met.K.Eq.laws _ _ _ c.self.invariant.0 c.args.key.now c.in-Some.number.now c.in-Some.ensures.value _ _ c.in-Some-get_mut.ensures.value refl one_pin_more c.add_pin.ensures
    ∙ ap (to_front (g.K.PartialEq.eq c.args.key.now) one_pin_more) c.self.view_is

pub returns-in_default-get_mut : goal.returns-in_default-get_mut
returns-in_default-get_mut g c = no-gap (λ p. p.index) (λ p. stored_status p.stored) g.K.PartialEq.eq g.met.K.Eq.laws _ _ _ c.self.invariant.0 c.args.key.now c.in-Some.number.now c.in-Some.ensures.value c.in_default-get_mut.ensures.value

pub returns-in_default : goal.returns-in_default
returns-in_default g c =
    sym c.self.view_is ∙ (front-none (λ p. p.index) (λ p. stored_status p.stored) g.K.PartialEq.eq g.met.K.Eq.laws _ _ _ c.self.invariant.0 c.args.key.now c.in_default.ensures.value one_pin_more ∙ ap (to_front (g.K.PartialEq.eq c.args.key.now) one_pin_more) c.self.view_is)
