use Rattle.border_region.proofs.ReachLemmas.{HasProfile}
use Rattle.border_region.proofs.profile.profile_of.Given as goal

abbrev pub invariant-loop-p : goal.invariant-loop-p
invariant-loop-p l = HasProfile l.widths l.p l.profile.items
