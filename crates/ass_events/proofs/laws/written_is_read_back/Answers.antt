use Rattle.ass_events.proofs.LawLemmas.{chunk_gives_event, read_back}
use Rattle.ass_events.proofs.laws.written_is_read_back.Goals as goal

pub returns-clause-ranges : goal.returns-clause-ranges
returns-clause-ranges c = chunk_gives_event

pub returns-clause-back : goal.returns-clause-back
returns-clause-back c = read_back
