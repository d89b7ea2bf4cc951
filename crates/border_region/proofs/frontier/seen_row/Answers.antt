use Rattle.border_region.proofs.FrontierLemmas.{row_within}
use Rattle.border_region.proofs.frontier.seen_row.Goals as goal

pub returns-clause-within : goal.returns-clause-within
returns-clause-within c = rw c.row.ensures.runs (row_within 131072 c.args.region.now.rows _ c.requires.within.runs)
