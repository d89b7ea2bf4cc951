use Rattle.std.proofs.Common.{sym, ap, ◌∙◌, subst, ◌∷◌}
use Rattle.std.specs.Map.{lookup}
use Rattle.evict_core.specs.Machine.{Flying}
use Rattle.evict_core.specs.Places.{stored_status, shown, Ties}
use Rattle.evict_core.proofs.InsertLemmas.{undone, ties-put, shown-put}
use Rattle.evict_core.proofs.recency.Recency.insert.Goals as goal

pub invariant_of-self-in_default-put : goal.invariant_of-self-in_default-put
invariant_of-self-in_default-put g c =
    let missing = ap (lookup (g.K.PartialEq.eq c.args.key)) c.self.view_is ∙ c.requires in
    let keys = c.truncate.ensures.entries ∙ undone (λ p. p.index) (λ p. stored_status p.stored) g.K.PartialEq.eq g.met.K.Eq.laws c.self.inside.keys c.self.inside.order c.self.inside.next c.self.invariant.0 c.args.key missing _ c.in-Ok.ensures.entries _ c.len-index.ensures.len in
    let times_named = ap (λ o. o.entries) c.in_default-put.ensures.err in (
      subst (λ l. Ties (λ p. p.index) g.K.PartialEq.eq l c.put.new.self.entries c.self.inside.next) (sym keys) (subst (λ l. Ties (λ p. p.index) g.K.PartialEq.eq c.self.inside.keys.entries l c.self.inside.next) (sym times_named) c.self.invariant.0),
      ap (λ o. o.cap) c.in_default-put.ensures.err ∙ c.self.invariant.1,
    )

pub returns-in_default-put-clause-err : goal.returns-in_default-put-clause-err
returns-in_default-put-clause-err g c =
    let missing = ap (lookup (g.K.PartialEq.eq c.args.key)) c.self.view_is ∙ c.requires in
    let keys = c.truncate.ensures.entries ∙ undone (λ p. p.index) (λ p. stored_status p.stored) g.K.PartialEq.eq g.met.K.Eq.laws c.self.inside.keys c.self.inside.order c.self.inside.next c.self.invariant.0 c.args.key missing _ c.in-Ok.ensures.entries _ c.len-index.ensures.len in
    let times_named = ap (λ o. o.entries) c.in_default-put.ensures.err in
    ap (λ l. shown (λ p. p.index) (λ p. stored_status p.stored) l c.put.new.self.entries) keys ∙ (ap (λ l. shown (λ p. p.index) (λ p. stored_status p.stored) c.self.inside.keys.entries l) times_named ∙ c.self.view_is)

pub invariant_of-self-2 : goal.invariant_of-self-2
invariant_of-self-2 g c =
    let missing = ap (lookup (g.K.PartialEq.eq c.args.key)) c.self.view_is ∙ c.requires in
    let fits = rw c.len-places.ensures.len at c.len-places.ensures.fits in (
      ties-put (λ p. p.index) (λ p. stored_status p.stored) g.K.PartialEq.eq g.met.K.Eq.laws c.self.inside.keys c.self.inside.order c.self.inside.next c.self.invariant.0 c.args.key missing _ c.in-Ok.ensures.entries _ c.len-index.ensures.len c.in-Ok.ensures.unique fits c.self.invariant.1 _ (ap (λ o. o.entries) c.in-Ok-put.ensures.entries),
      ap (λ o. o.cap) c.in-Ok-put.ensures.entries ∙ c.self.invariant.1,
    )

pub returns-clause-ok : goal.returns-clause-ok
returns-clause-ok g c =
    let missing = ap (lookup (g.K.PartialEq.eq c.args.key)) c.self.view_is ∙ c.requires in
    let fits = rw c.len-places.ensures.len at c.len-places.ensures.fits in
    shown-put (λ p. p.index) (λ p. stored_status p.stored) g.K.PartialEq.eq g.met.K.Eq.laws c.self.inside.keys c.self.inside.order c.self.inside.next c.self.invariant.0 c.args.key missing _ c.in-Ok.ensures.entries _ c.len-index.ensures.len c.in-Ok.ensures.unique fits c.self.invariant.1 _ (ap (λ o. o.entries) c.in-Ok-put.ensures.entries)
    ∙ ap (λ l. (c.args.key, Flying c.args.maker) ∷ l) c.self.view_is
