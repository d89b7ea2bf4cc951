use Rattle.std.proofs.Common.{◌∙◌, sym}
use Rattle.tag_state.proofs.TextLemmas.{still_shows}
use Rattle.tag_state.proofs.still.is_still.Goals as goal

pub returns-clause-same : goal.returns-clause-same
returns-clause-same c = λ yes. still_shows c.args.items.now (sym c.items_stay.ensures ∙ yes)
