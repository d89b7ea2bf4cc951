use Rattle.border_region.proofs.FrontierLemmas.{HasSifted}
use Rattle.border_region.proofs.frontier.frontier.Given as goal

abbrev pub invariant-loop-n : goal.invariant-loop-n
invariant-loop-n l = HasSifted l.region l.upwards l.changes l.n l.found.items
