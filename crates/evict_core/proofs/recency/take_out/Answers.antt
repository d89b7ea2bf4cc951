use Rattle.std.proofs.Common.{sym, ap, ◌∙◌, subst, nat_eq, refl}
use Rattle.evict_core.specs.Places.{stored_status, Ties}
use Rattle.evict_core.proofs.TieLemmas.{no-item}
use Rattle.evict_core.proofs.TakeLemmas.{shown-at_end, ties-at_end, gap-moved, shown-told, ties-told}
use Rattle.evict_core.proofs.recency.take_out.Goals as goal

pub returns-in_err-place-clause-tied : goal.returns-in_err-place-clause-tied
returns-in_err-place-clause-tied g c = λ next tied.
    let same = ap (λ o. o.entries) c.in_err-place.ensures.entries ∙ (no-item (nat_eq c.args.number) c.args.order.now.entries c.in_err-place.ensures.value).1 in
    (subst (λ l. Ties (λ p. p.index) g.K.PartialEq.eq c.args.keys.now.entries l next) (sym same) tied.0, ap (λ o. o.cap) c.in_err-place.ensures.entries ∙ tied.1)

pub returns-in_default-clause-shown : goal.returns-in_default-clause-shown
returns-in_default-clause-shown g c = λ next tied.
    shown-at_end (λ p. p.index) (λ p. stored_status p.stored) g.K.PartialEq.eq g.met.K.Eq.laws _ _ next tied.0 c.args.number _ c.in_ok-place.place c.in_ok-place.ensures.value _ _ c.swap_remove_index.ensures.entry c.swap_remove_index.ensures.entries c.swap_remove_index.ensures.unique _ (ap (λ o. o.entries) c.in_ok-place.ensures.entries) c.in_default.ensures.entry

pub returns-in_default-clause-tied : goal.returns-in_default-clause-tied
returns-in_default-clause-tied g c = λ next tied. (
  ties-at_end (λ p. p.index) (λ p. stored_status p.stored) g.K.PartialEq.eq g.met.K.Eq.laws _ _ next tied.0 c.args.number _ c.in_ok-place.place c.in_ok-place.ensures.value _ _ c.swap_remove_index.ensures.entry c.swap_remove_index.ensures.entries c.swap_remove_index.ensures.unique _ (ap (λ o. o.entries) c.in_ok-place.ensures.entries) c.in_default.ensures.entry,
  ap (λ o. o.cap) c.in_ok-place.ensures.entries ∙ tied.1,
)

pub returns-in_default-peek_mut-clause-shown : goal.returns-in_default-peek_mut-clause-shown
returns-in_default-peek_mut-clause-shown g c = λ next tied.
    gap-moved (λ p. p.index) (λ p. stored_status p.stored) g.K.PartialEq.eq g.met.K.Eq.laws _ _ next tied.0 c.args.number _ c.in_ok-place.place c.in_ok-place.ensures.value _ _ c.swap_remove_index.ensures.entry c.swap_remove_index.ensures.entries c.swap_remove_index.ensures.unique _ (ap (λ o. o.entries) c.in_ok-place.ensures.entries) _ _ c.in-Some.ensures.entry c.in_default-peek_mut.ensures.value

pub returns-in_default-peek_mut-clause-tied : goal.returns-in_default-peek_mut-clause-tied
returns-in_default-peek_mut-clause-tied g c = λ next tied.
    gap-moved (λ p. p.index) (λ p. stored_status p.stored) g.K.PartialEq.eq g.met.K.Eq.laws _ _ next tied.0 c.args.number _ c.in_ok-place.place c.in_ok-place.ensures.value _ _ c.swap_remove_index.ensures.entry c.swap_remove_index.ensures.entries c.swap_remove_index.ensures.unique _ (ap (λ o. o.entries) c.in_ok-place.ensures.entries) _ _ c.in-Some.ensures.entry c.in_default-peek_mut.ensures.value

pub returns-clause-shown : goal.returns-clause-shown
returns-clause-shown g c = λ next tied.
    shown-told (λ p. p.index) (λ p. stored_status p.stored) g.K.PartialEq.eq g.met.K.Eq.laws _ _ next tied.0 c.args.number _ c.in_ok-place.place c.in_ok-place.ensures.value _ _ c.swap_remove_index.ensures.entry c.swap_remove_index.ensures.entries c.swap_remove_index.ensures.unique _ (ap (λ o. o.entries) c.in_ok-place.ensures.entries) _ _ c.in-Some.ensures.entry _ _ c.in-Some-peek_mut.ensures.value refl refl

pub returns-clause-tied : goal.returns-clause-tied
returns-clause-tied g c = λ next tied. (
  ties-told (λ p. p.index) (λ p. stored_status p.stored) g.K.PartialEq.eq g.met.K.Eq.laws _ _ next tied.0 c.args.number _ c.in_ok-place.place c.in_ok-place.ensures.value _ _ c.swap_remove_index.ensures.entry c.swap_remove_index.ensures.entries c.swap_remove_index.ensures.unique _ (ap (λ o. o.entries) c.in_ok-place.ensures.entries) _ _ c.in-Some.ensures.entry _ _ c.in-Some-peek_mut.ensures.value refl refl,
  ap (λ o. o.cap) c.in_ok-place.ensures.entries ∙ tied.1,
)
