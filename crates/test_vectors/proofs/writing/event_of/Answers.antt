use Rattle.std.proofs.Common.{sym, subst}
use Rattle.ass_events.specs.Ranges.{IsEvent}
use Rattle.ass_events.proofs.LawLemmas.{chunk_gives_event}
use Rattle.test_vectors.proofs.writing.event_of.Goals as goal

pub returns-in-Ok-new : goal.returns-in-Ok-new
returns-in-Ok-new c = subst IsEvent (sym c.in-Ok-new.ensures.ok) (chunk_gives_event _ _ _ _ c.in-Ok.ensures)
