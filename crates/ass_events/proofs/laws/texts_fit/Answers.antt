use Rattle.ass_events.proofs.TextLemmas.{chunk_fits, line_fits}
use Rattle.ass_events.proofs.laws.texts_fit.Goals as goal

pub returns-clause-chunks : goal.returns-clause-chunks
returns-clause-chunks c = chunk_fits

pub returns-clause-lines : goal.returns-clause-lines
returns-clause-lines c = line_fits
