use Rattle.std.proofs.Common.{◌∙◌, ap, sym, subst, map, ◌++◌, ◌∷◌, [], Err}
use Rattle.std.proofs.lemmas.List.{map-append}
use Rattle.std.specs.Arc.{arc_value}
use Rattle.ass_events.specs.Events.{IsChunkAnswer, event_of_line}
use Rattle.ass_events.specs.declared.event.ChunkRefusal.{ChunkRefusal}
use Rattle.ass_events.specs.declared.event.ChunkRefusal.TheVariants.{Malformed}
use Rattle.ass_events.specs.declared.event.Event.{Event}
use Rattle.ass_events.specs.ScriptEvents.{first_events}
use Rattle.ass_events.proofs.GivenEvents.{accepted, refused}
use Rattle.ass_events.proofs.events.add_line.Goals as goal

pub returns-in_ok-push-in-Ok : goal.returns-in_ok-push-in-Ok
returns-in_ok-push-in-Ok c =
    let script = c.args.script.now in
    let i = c.args.i in
    ap (map arc_value) c.in_ok-push-in-Ok.ensures.items ∙ map-append arc_value c.args.events.now.items (c.in_ok-new-in-Ok.field-0 ∷ [])
    ∙ ap (λ front. front ++ arc_value c.in_ok-new-in-Ok.field-0 ∷ []) c.requires.before
    ∙ ap (λ event. first_events script i ++ event ∷ []) c.in_ok-new-in-Ok.ensures.ok
    ∙ sym (accepted script i c.in-Ok.event c.in-Ok.ensures.answer)

pub returns-in-Err-Malformed : goal.returns-in-Err-Malformed
returns-in-Err-Malformed c =
    let script = c.args.script.now in
    let i = c.args.i in
    let is = subst (λ (refusal : ChunkRefusal). IsChunkAnswer {Value = Event} (Err refusal) (event_of_line script i)) c.in-Err-Malformed.field-0-is c.in-Err-Malformed.ensures.answer in
    c.requires.before ∙ sym (refused script i (Malformed c.in-Err-Malformed.field-0-0 c.in-Err-Malformed.field-0-1) is)
