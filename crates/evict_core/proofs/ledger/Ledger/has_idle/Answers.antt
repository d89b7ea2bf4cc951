use Rattle.std.proofs.Common.{nat_lt, ap, ◌∙◌}
use Rattle.evict_core.specs.Machine.{has_idle}
use Rattle.evict_core.proofs.SumLemmas.{idle-counted}
use Rattle.evict_core.proofs.ledger.Ledger.has_idle.Goals as goal

pub returns : goal.returns
returns g c = ap (λ n. nat_lt 0 n) c.self.invariant.idle_is ∙ (idle-counted c.self.inside.entries ∙ ap has_idle c.self.view_is)
