use Rattle.std.proofs.Common.{arith, ◌≤◌, sym, subst}
use Rattle.ass_num.specs.Limits.{max_text_bytes}
use Rattle.ass_events.specs.declared.event.Event.{Event}
use Rattle.ass_events.specs.Ranges.{IsEvent, text_bytes}
use Rattle.ass_events.proofs.LawLemmas.{chunk_gives_event}
use Rattle.ass_events.proofs.TextLemmas.{chunk_fits}
use Rattle.sharing_tests.proofs.live_events.event_of.Goals as goal

pub returns-in-Ok-new : goal.returns-in-Ok-new
returns-in-Ok-new c =
    let read = c.in-Ok-read_chunk.ensures in
    let fits = chunk_fits _ _ _ _ read in
    subst (λ (e : Event). IsEvent e × (text_bytes e ≤ max_text_bytes)) (sym c.in-Ok-new.ensures.ok) (chunk_gives_event _ _ _ _ read, omega (arith, fits))
