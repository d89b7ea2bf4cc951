use Rattle.ass_events.proofs.LineLengths.{lines_fit}
use Rattle.ass_events.proofs.line_laws.lines_fit_their_text.Goals as goal

pub returns : goal.returns
returns c = lines_fit
