use Rattle.evict_core.proofs.SumLemmas.{remove-sums, some-of}
use Rattle.evict_core.proofs.ledger.Ledger.remove.Goals as goal

pub invariant_of-self : goal.invariant_of-self
invariant_of-self g c =
    let made = some-of _ (rw (← c.self.view_is) at c.requires) in
    rw c.remove.ensures (remove-sums g.K.PartialEq.eq c.self.inside.entries _ _ _ c.self.invariant c.args.key.now made.0 made.1)
