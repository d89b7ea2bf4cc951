use Rattle.std.proofs.Common.{sym, ap, ◌∙◌, arith, length}
use Rattle.evict_core.specs.Machine.{is_idle, flying}
use Rattle.evict_core.proofs.SumLemmas.{length-without_last-le}
use Rattle.evict_core.proofs.FlyingLemmas.{flying-evicted}
use Rattle.evict_core.proofs.entries.Entries.evict.Goals as goal

pub invariant_of-self : goal.invariant_of-self
invariant_of-self g c = (omega (arith, ap length c.evict.ensures, length-without_last-le is_idle c.self.inside.list, c.self.invariant.0), c.self.invariant.1, c.self.invariant.2 ∙ sym (ap flying c.evict.ensures ∙ flying-evicted c.self.inside.list), c.self.invariant.3)
