use Rattle.std.proofs.Common.{◌∙◌, ap, sym, length, Ok, rules, FitsSigned, w64, to_z-of_z}
use Rattle.ass_events.specs.Plain.{plain}
use Rattle.ass_events.proofs.EventLemmas.{chunk_not_utf8, chunk_field_refused, chunk_timed, timed_start, timed_duration, timed_ok, chunk_have_utf8}
use Rattle.ass_events.proofs.read.read_chunk.Goals as goal

pub returns-in-Err : goal.returns-in-Err
returns-in-Err c =
    chunk_not_utf8 c.args.bytes.now c.args.start c.args.duration c.valid_up_to.result c.in-Err.ensures.cases.0 (c.valid_up_to.ensures ∙ c.in-Err.ensures.valid_len)

pub returns-in-Err-read_fields : goal.returns-in-Err-read_fields
returns-in-Err-read_fields c =
    chunk_field_refused c.args.bytes.now c.args.start c.args.duration c.in-Err-read_fields.refusal c.in_default.ensures.cases.1 c.in-Err-read_fields.ensures

pub returns-then-not-is_time : goal.returns-then-not-is_time
returns-then-not-is_time c =
    let fits : FitsSigned w64 c.args.start = search rules in
    let is = rw (to_z-of_z fits) at c.if-not-is_time.ensures in
    chunk_timed c.args.bytes.now c.args.start c.args.duration (plain c.in-Ok.fields) c.in_default.ensures.cases.1 c.in-Ok.ensures
    ∙ timed_start (length c.args.bytes.now) c.args.start c.args.duration (plain c.in-Ok.fields) (sym is)

pub returns-then-not-is_time-2 : goal.returns-then-not-is_time-2
returns-then-not-is_time-2 c =
    let fits : FitsSigned w64 c.args.start = search rules in
    let also : FitsSigned w64 c.args.duration = search rules in
    let is = rw (to_z-of_z fits) at c.if-not-is_time.ensures in
    let lasts = rw (to_z-of_z also) at c.if-not-is_time-2.ensures in
    chunk_timed c.args.bytes.now c.args.start c.args.duration (plain c.in-Ok.fields) c.in_default.ensures.cases.1 c.in-Ok.ensures
    ∙ timed_duration (length c.args.bytes.now) c.args.start c.args.duration (plain c.in-Ok.fields) (sym is) (sym lasts)

pub event-requires : goal.event-requires
event-requires c = chunk_have_utf8 c.args.bytes.now (plain c.in-Ok.fields) c.in_default.ensures.cases.1 c.in-Ok.ensures

pub returns : goal.returns
returns c =
    let fits : FitsSigned w64 c.args.start = search rules in
    let also : FitsSigned w64 c.args.duration = search rules in
    let is = rw (to_z-of_z fits) at c.if-not-is_time.ensures in
    let lasts = rw (to_z-of_z also) at c.if-not-is_time-2.ensures in
    let made = rw (to_z-of_z fits, to_z-of_z also) at c.in_ok-event.ensures in
    chunk_timed c.args.bytes.now c.args.start c.args.duration (plain c.in-Ok.fields) c.in_default.ensures.cases.1 c.in-Ok.ensures
    ∙ timed_ok (length c.args.bytes.now) c.args.start c.args.duration (plain c.in-Ok.fields) (sym is) (sym lasts)
    ∙ ap Ok (sym made)
