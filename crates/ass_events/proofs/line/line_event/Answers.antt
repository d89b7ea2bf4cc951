use Rattle.std.proofs.Common.{◌∙◌, ap, sym, Ok, rules, FitsSigned, w64, to_z-of_z}
use Rattle.ass_events.specs.Plain.{plain}
use Rattle.ass_events.proofs.EventLemmas.{event_refused, line_said, fields_in_range}
use Rattle.ass_events.proofs.LawLemmas.{line_have_utf8}
use Rattle.ass_events.proofs.line.line_event.Goals as goal

pub returns-in-Err : goal.returns-in-Err
returns-in-Err c = event_refused c.args.format.now c.args.order c.args.line.now c.in-Err.refusal c.in-Err.ensures

pub duration_between-duration-requires-clause-start : goal.duration_between-duration-requires-clause-start
duration_between-duration-requires-clause-start c =
    let fits : FitsSigned w64 c.in-Ok.fields.start = search rules in
    rw (to_z-of_z fits) (fields_in_range c.args.format.now c.args.line.now (plain c.in-Ok.fields) c.in-Ok.ensures).start.least

pub duration_between-duration-requires-clause-last : goal.duration_between-duration-requires-clause-last
duration_between-duration-requires-clause-last c =
    let fits : FitsSigned w64 c.in-Ok.fields.end = search rules in
    rw (to_z-of_z fits) (fields_in_range c.args.format.now c.args.line.now (plain c.in-Ok.fields) c.in-Ok.ensures).last.least

pub event-requires : goal.event-requires
event-requires c = line_have_utf8 c.args.format.now c.args.line.now (plain c.in-Ok.fields) c.requires.text c.requires.utf8 c.in-Ok.ensures

pub returns : goal.returns
returns c =
    let fields = c.in-Ok.fields in
    let start : FitsSigned w64 fields.start = search rules in
    let last : FitsSigned w64 fields.end = search rules in
    let duration : FitsSigned w64 c.duration_between-duration.result = search rules in
    let lasts = rw (to_z-of_z start, to_z-of_z last) at c.duration_between-duration.ensures in
    let made = rw (to_z-of_z start, to_z-of_z duration) at c.in_ok-event.ensures in
    line_said c.args.format.now c.args.order c.args.line.now (plain fields) c.in-Ok.ensures ∙ ap Ok (sym (rw lasts at made))
