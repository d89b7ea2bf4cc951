use Rattle.std.proofs.Common.{sym, ap, ◌∙◌, option_map}
use Rattle.std.specs.Map.{lookup}
use Rattle.evict_core.proofs.TieLemmas.{lookup-found, lookup-missing}
use Rattle.evict_core.specs.Places.{stored_status}
use Rattle.evict_core.proofs.recency.Recency.get.Goals as goal

pub returns-in_err-number : goal.returns-in_err-number
returns-in_err-number g c =
    let missing = lookup-missing (λ p. p.index) (λ p. stored_status p.stored) g.K.PartialEq.eq g.met.K.Eq.laws _ _ _ c.self.invariant.0 c.args.key.now (sym c.in_err-number.ensures.value) in
    rw c.from_residual.ensures (sym missing ∙ ap (lookup (g.K.PartialEq.eq c.args.key.now)) c.self.view_is)

pub returns-in_err-place : goal.returns-in_err-place
returns-in_err-place g c =
    let found = lookup-found (λ p. p.index) (λ p. stored_status p.stored) g.K.PartialEq.eq g.met.K.Eq.laws _ _ _ c.self.invariant.0 c.args.key.now c.in_ok-number.field-0.now (sym c.in_ok-number.ensures.value) in
    rw c.from_residual-in_err-place.ensures (ap (option_map (λ p. stored_status p.stored)) c.in_err-place.ensures ∙ (sym found ∙ ap (lookup (g.K.PartialEq.eq c.args.key.now)) c.self.view_is))

pub returns : goal.returns
returns g c =
    let found = lookup-found (λ p. p.index) (λ p. stored_status p.stored) g.K.PartialEq.eq g.met.K.Eq.laws _ _ _ c.self.invariant.0 c.args.key.now c.in_ok-number.field-0.now (sym c.in_ok-number.ensures.value) in
    ap (option_map (λ p. stored_status p.stored)) c.in_ok-place.ensures ∙ (sym found ∙ ap (lookup (g.K.PartialEq.eq c.args.key.now)) c.self.view_is)
