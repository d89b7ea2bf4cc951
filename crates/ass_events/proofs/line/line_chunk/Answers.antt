use Rattle.std.proofs.Common.{◌∙◌, ap, sym, rules, FitsSigned, w64, to_z-of_z}
use Rattle.ass_events.specs.Plain.{plain}
use Rattle.ass_events.specs.Events.{chunked, fields_bytes, duration_between}
use Rattle.ass_events.proofs.EventLemmas.{line_refused, line_said, fields_in_range, same_chunk}
use Rattle.ass_events.proofs.line.line_chunk.Goals as goal

pub returns-in-Err : goal.returns-in-Err
returns-in-Err c = line_refused c.args.format.now c.args.order c.args.line.now c.in-Err.refusal c.in-Err.ensures

pub duration_between-requires-clause-start : goal.duration_between-requires-clause-start
duration_between-requires-clause-start c =
    let fits : FitsSigned w64 c.in-Ok.fields.start = search rules in
    rw (to_z-of_z fits) (fields_in_range c.args.format.now c.args.line.now (plain c.in-Ok.fields) c.in-Ok.ensures).start.least

pub duration_between-requires-clause-last : goal.duration_between-requires-clause-last
duration_between-requires-clause-last c =
    let fits : FitsSigned w64 c.in-Ok.fields.end = search rules in
    rw (to_z-of_z fits) (fields_in_range c.args.format.now c.args.line.now (plain c.in-Ok.fields) c.in-Ok.ensures).last.least

pub returns : goal.returns
returns c =
    let fields = c.in-Ok.fields in
    let start : FitsSigned w64 fields.start = search rules in
    let last : FitsSigned w64 fields.end = search rules in
    let duration : FitsSigned w64 c.duration_between.result = search rules in
    ap chunked (line_said c.args.format.now c.args.order c.args.line.now (plain fields) c.in-Ok.ensures)
    ∙ same_chunk (fields_bytes c.args.order (plain fields)) c.from_vec.result fields.start _ (duration_between fields.start fields.end) _
    (sym (c.from_vec.ensures ∙ c.in_ok-bytes.ensures)) (sym (to_z-of_z start)) (sym (to_z-of_z duration ∙ rw (to_z-of_z start, to_z-of_z last) at c.duration_between.ensures))
