use Rattle.std.proofs.Common.{sym, ap, ◌∙◌, arith, length}
use Rattle.evict_core.specs.Machine.{is_idle, trim}
use Rattle.evict_core.proofs.TrimLemmas.{trim-more, trim-done, some-idle}
use Rattle.evict_core.proofs.RecencyLemmas.{length-without_last}
use Rattle.evict_core.proofs.entries.Entries.trim.Goals as goal

pub loop-self-preserved : goal.loop-self-preserved
loop-self-preserved g c = ap trim c.evict.ensures ∙ (sym (trim-more c.loop-self.self (sym c.loop-self-test.ensures)) ∙ c.loop-self.invariant)

pub loop-self-smaller : goal.loop-self-smaller
loop-self-smaller g c =
    let shorter = length-without_last is_idle c.loop-self.self.entries (some-idle c.loop-self.self (sym c.loop-self-test.ensures)) in
    let len = ap (λ s. length s.entries) c.evict.ensures in
    omega (arith, shorter, len)

pub returns : goal.returns
returns g c = sym (trim-done c.loop-self.self (sym c.loop-self-test.ensures)) ∙ c.loop-self.invariant
