use Rattle.std.proofs.Common.{sym, ap, ◌∙◌, length}
use Rattle.evict_core.proofs.PlacesLemmas.{length-shown, each-found}
use Rattle.evict_core.specs.Places.{stored_status}
use Rattle.evict_core.proofs.recency.Recency.len.Goals as goal

pub returns : goal.returns
returns g c =
    let tied = c.self.invariant.0 in
    let same = length-shown (λ p. p.index) (λ p. stored_status p.stored) c.self.inside.keys.entries c.self.inside.order.entries (each-found _ _ tied.numbers tied.named) in
    c.len.ensures.len ∙ (sym same ∙ ap length c.self.view_is)
