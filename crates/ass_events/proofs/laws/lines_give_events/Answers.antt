use Rattle.ass_events.proofs.LawLemmas.{line_gives_event, read_back}
use Rattle.ass_events.proofs.laws.lines_give_events.Goals as goal

pub returns-clause-ranges : goal.returns-clause-ranges
returns-clause-ranges c = line_gives_event

pub returns-clause-chunk : goal.returns-clause-chunk
returns-clause-chunk c = λ script i event is inside e. read_back event (line_gives_event script i event is inside e)
