use Rattle.std.proofs.Common.{◌≤◌, arith, subst, sym}
use Rattle.ass_num.specs.Limits.{max_text_bytes}
use Rattle.ass_events.specs.Ranges.{IsEvent, text_bytes}
use Rattle.ass_events.specs.declared.event.Event.{Event}
use Rattle.ass_events.proofs.LawLemmas.{chunk_gives_event}
use Rattle.ass_events.proofs.TextLemmas.{chunk_fits}
use Rattle.track_history.proofs.track.read_event.Goals as goal

pub returns-in-Ok-new-clause-in_range : goal.returns-in-Ok-new-clause-in_range
returns-in-Ok-new-clause-in_range c = subst IsEvent (sym c.in-Ok-new.ensures.ok) (chunk_gives_event _ _ _ _ c.in-Ok.ensures)

pub returns-in-Ok-new-clause-short : goal.returns-in-Ok-new-clause-short
returns-in-Ok-new-clause-short c = let fits = chunk_fits _ _ _ _ c.in-Ok.ensures in
    subst (λ (e : Event). text_bytes e ≤ max_text_bytes) (sym c.in-Ok-new.ensures.ok) (omega (arith, fits, c.requires))
