use Rattle.std.proofs.Common.{◌<◌, sym, ap, ◌∙◌, subst, option_map, refl}
use Rattle.std.specs.Map.{lookup}
use Rattle.evict_core.specs.Machine.{max_pins, pins_in, one_pin_more}
use Rattle.evict_core.specs.Places.{stored_status}
use Rattle.evict_core.specs.Recency.{to_front}
use Rattle.evict_core.proofs.TieLemmas.{lookup-found, lookup-missing}
use Rattle.evict_core.proofs.WriteLemmas.{no-gap, ties-front, shown-front}
use Rattle.evict_core.proofs.recency.Recency.take_pin.Goals as goal

pub add_pin-requires : goal.add_pin-requires
add_pin-requires g c = subst (λ o. pins_in (option_map (λ p. stored_status p.stored) o) < max_pins) (c.in-Some-peek.ensures ∙ sym c.in-Some-get_mut.ensures.value) c.in-Pinned.ensures.1

pub invariant_of-self : goal.invariant_of-self
invariant_of-self g c = no-gap (λ p. p.index) (λ p. stored_status p.stored) g.K.PartialEq.eq g.met.K.Eq.laws _ _ _ c.self.invariant.0 c.args.key.now c.in-Some.number.now c.in-Some.ensures.value c.in_default-get_mut.ensures.value

pub invariant_of-self-in-Pinned : goal.invariant_of-self-in-Pinned
invariant_of-self-in-Pinned g c =
    (ties-front (λ p. p.index) (λ p. stored_status p.stored) g.K.PartialEq.eq g.met.K.Eq.laws _ _ _ c.self.invariant.0 c.args.key.now c.in-Some.number.now c.in-Some.ensures.value _ _ c.in-Some-get_mut.ensures.value refl, c.self.invariant.1)

pub returns-in_default-clause-look : goal.returns-in_default-clause-look
returns-in_default-clause-look g c =
    ap (lookup (g.K.PartialEq.eq c.args.key.now)) (sym c.self.view_is) ∙ lookup-missing (λ p. p.index) (λ p. stored_status p.stored) g.K.PartialEq.eq g.met.K.Eq.laws _ _ _ c.self.invariant.0 c.args.key.now (sym c.in_default.ensures.value)

pub returns-in_default-peek-clause-look : goal.returns-in_default-peek-clause-look
returns-in_default-peek-clause-look g c = no-gap (λ p. p.index) (λ p. stored_status p.stored) g.K.PartialEq.eq g.met.K.Eq.laws _ _ _ c.self.invariant.0 c.args.key.now c.in-Some.number.now c.in-Some.ensures.value c.in_default-peek.ensures

pub returns-in-Some-get_mut-clause-look : goal.returns-in-Some-get_mut-clause-look
returns-in-Some-get_mut-clause-look g c =
    let found = lookup-found (λ p. p.index) (λ p. stored_status p.stored) g.K.PartialEq.eq g.met.K.Eq.laws _ _ _ c.self.invariant.0 c.args.key.now c.in-Some.number.now (sym c.in-Some.ensures.value) in
    let is = ap (lookup (g.K.PartialEq.eq c.args.key.now)) (sym c.self.view_is) ∙ (found ∙ ap (option_map (λ p. stored_status p.stored)) (sym c.in-Some-peek.ensures)) in
    rw is c.in-Pinned.ensures

pub returns-in-Some-get_mut-clause-list : goal.returns-in-Some-get_mut-clause-list
returns-in-Some-get_mut-clause-list g c =
    shown-front (λ p. p.index) (λ p. stored_status p.stored) g.K.PartialEq.eq g.met.K.Eq.laws _ _ _ c.self.invariant.0 c.args.key.now c.in-Some.number.now c.in-Some.ensures.value _ _ c.in-Some-get_mut.ensures.value refl one_pin_more c.add_pin.ensures
    ∙ ap (to_front (g.K.PartialEq.eq c.args.key.now) one_pin_more) c.self.view_is

pub returns-in_default-get_mut-clause-list : goal.returns-in_default-get_mut-clause-list
returns-in_default-get_mut-clause-list g c = no-gap (λ p. p.index) (λ p. stored_status p.stored) g.K.PartialEq.eq g.met.K.Eq.laws _ _ _ c.self.invariant.0 c.args.key.now c.in-Some.number.now c.in-Some.ensures.value c.in_default-get_mut.ensures.value

pub returns-in_default-get_mut-clause-look : goal.returns-in_default-get_mut-clause-look
returns-in_default-get_mut-clause-look g c = no-gap (λ p. p.index) (λ p. stored_status p.stored) g.K.PartialEq.eq g.met.K.Eq.laws _ _ _ c.self.invariant.0 c.args.key.now c.in-Some.number.now c.in-Some.ensures.value c.in_default-get_mut.ensures.value

pub returns-in-Absent-clause-look : goal.returns-in-Absent-clause-look
returns-in-Absent-clause-look g c =
    let found = lookup-found (λ p. p.index) (λ p. stored_status p.stored) g.K.PartialEq.eq g.met.K.Eq.laws _ _ _ c.self.invariant.0 c.args.key.now c.in-Some.number.now (sym c.in-Some.ensures.value) in
    let is = ap (lookup (g.K.PartialEq.eq c.args.key.now)) (sym c.self.view_is) ∙ (found ∙ ap (option_map (λ p. stored_status p.stored)) (sym c.in-Some-peek.ensures)) in
    rw is c.in-Absent.ensures

pub returns-in-Making-clause-look : goal.returns-in-Making-clause-look
returns-in-Making-clause-look g c =
    let found = lookup-found (λ p. p.index) (λ p. stored_status p.stored) g.K.PartialEq.eq g.met.K.Eq.laws _ _ _ c.self.invariant.0 c.args.key.now c.in-Some.number.now (sym c.in-Some.ensures.value) in
    let is = ap (lookup (g.K.PartialEq.eq c.args.key.now)) (sym c.self.view_is) ∙ (found ∙ ap (option_map (λ p. stored_status p.stored)) (sym c.in-Some-peek.ensures)) in
    rw is c.in-Making.ensures

pub returns-in-Full-clause-look : goal.returns-in-Full-clause-look
returns-in-Full-clause-look g c =
    let found = lookup-found (λ p. p.index) (λ p. stored_status p.stored) g.K.PartialEq.eq g.met.K.Eq.laws _ _ _ c.self.invariant.0 c.args.key.now c.in-Some.number.now (sym c.in-Some.ensures.value) in
    let is = ap (lookup (g.K.PartialEq.eq c.args.key.now)) (sym c.self.view_is) ∙ (found ∙ ap (option_map (λ p. stored_status p.stored)) (sym c.in-Some-peek.ensures)) in
    rw is c.in-Full.ensures

pub returns-in-OutOfMemory-clause-look : goal.returns-in-OutOfMemory-clause-look
returns-in-OutOfMemory-clause-look g c =
    let found = lookup-found (λ p. p.index) (λ p. stored_status p.stored) g.K.PartialEq.eq g.met.K.Eq.laws _ _ _ c.self.invariant.0 c.args.key.now c.in-Some.number.now (sym c.in-Some.ensures.value) in
    let is = ap (lookup (g.K.PartialEq.eq c.args.key.now)) (sym c.self.view_is) ∙ (found ∙ ap (option_map (λ p. stored_status p.stored)) (sym c.in-Some-peek.ensures)) in
    rw is c.in-OutOfMemory.ensures
