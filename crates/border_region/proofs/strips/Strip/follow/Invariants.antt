use Rattle.border_region.proofs.StripLemmas.{HasFollowed}
use Rattle.border_region.proofs.strips.Strip.follow.Given as goal

abbrev pub invariant-loop-row : goal.invariant-loop-row
invariant-loop-row l = HasFollowed l.rows l.k l.n l.row l.at l.self.lefts.items l.self.rights.items
