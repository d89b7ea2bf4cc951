use Rattle.line_layout.proofs.OneLemmas.{one_best, one_filling}
use Rattle.line_layout.proofs.laws.one_best_set.Goals as goal

pub returns-clause-best : goal.returns-clause-best
returns-clause-best c = one_best

pub returns-clause-filled : goal.returns-clause-filled
returns-clause-filled c widths spaces max = one_filling widths spaces max 0
