use Rattle.std.proofs.Common.{sym, ap, ◌∙◌, nat_eq}
use Rattle.std.specs.Map.{lookup, remove_entry}
use Rattle.evict_core.specs.Places.{stored_status}
use Rattle.evict_core.proofs.PlacesLemmas.{remove-shown, remove-missing}
use Rattle.evict_core.proofs.TieLemmas.{agree, lookup-missing}
use Rattle.evict_core.proofs.recency.Recency.remove.Goals as goal

pub invariant_of-self : goal.invariant_of-self
invariant_of-self g c = c.take_out.ensures.tied c.self.inside.next c.self.invariant

pub returns-in-Some : goal.returns-in-Some
returns-in-Some g c =
    let found = sym c.get.ensures.value ∙ sym c.in-Some.ensures in
    c.take_out.ensures.shown c.self.inside.next c.self.invariant
    ∙ (sym (remove-shown (λ p. p.index) (λ p. stored_status p.stored) _ (g.K.PartialEq.eq c.args.key.now) (nat_eq c.in-Some.number) _ (agree (λ p. p.index) (λ p. stored_status p.stored) g.K.PartialEq.eq g.met.K.Eq.laws _ _ _ c.self.invariant.0 c.args.key.now c.in-Some.number found))
    ∙ ap (remove_entry (g.K.PartialEq.eq c.args.key.now)) c.self.view_is)

pub returns-in_default : goal.returns-in_default
returns-in_default g c =
    let none = sym c.get.ensures.value ∙ sym c.in_default.ensures in
    let missing = lookup-missing (λ p. p.index) (λ p. stored_status p.stored) g.K.PartialEq.eq g.met.K.Eq.laws _ _ _ c.self.invariant.0 c.args.key.now none in
    sym (remove-missing (g.K.PartialEq.eq c.args.key.now) c.args.self.now (ap (lookup (g.K.PartialEq.eq c.args.key.now)) (sym c.self.view_is) ∙ missing))
