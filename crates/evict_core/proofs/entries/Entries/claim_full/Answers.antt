use Rattle.std.proofs.Common.{ap, ◌∙◌, arith, length}
use Rattle.std.proofs.lemmas.Bool.{or_left}
use Rattle.evict_core.specs.Machine.{is_idle, has_idle, flying}
use Rattle.evict_core.proofs.FlyingLemmas.{flying-evicted, flying-few}
use Rattle.evict_core.proofs.RecencyLemmas.{length-without_last}
use Rattle.evict_core.proofs.entries.Entries.claim_full.Goals as goal

pub overflow_add-self : goal.overflow_add-self
overflow_add-self g c = omega (arith, c.self.invariant.0, c.self.invariant.2, flying-few c.self.inside.list)

pub invariant_of-self-2 : goal.invariant_of-self-2
invariant_of-self-2 g c =
    let put = c.in_ok-insert.ensures.ok in
    let idle = ap has_idle put ∙ or_left (has_idle c.self.inside.list) _ (ap (λ s. has_idle s.entries) c.self.view_is ∙ c.requires.idle) in (
      omega (arith, ap length c.evict.ensures, ap length put, length-without_last is_idle c.insert.new.self idle, c.self.invariant.0),
      c.self.invariant.1,
      omega (arith, ap flying c.evict.ensures, ap flying put, flying-evicted c.insert.new.self, c.self.invariant.2),
      c.self.invariant.3,
    )
