use Rattle.std.proofs.Common.{◌<◌, ◌≤◌, List, ℕ, length, arith, subst, sym, to_z-of_z}
use Rattle.std.specs.Arc.{arc_value}
use Rattle.ass_events.specs.declared.event.ChunkRefusal.TheVariants.{Malformed}
use Rattle.ass_num.specs.Limits.{max_text_bytes}
use Rattle.ass_script.specs.Scripts.{ScriptValue}
use Rattle.play_workers.specs.Stages.{play_on}
use Rattle.play_workers.proofs.Fed.{line_fed, line_inside, line_short, line_without_event, none_fed_yet, times_fit}
use Rattle.play_workers.proofs.feeder.feed_line.Goals as goal

pub chunk_of_line-requires-clause-within : goal.chunk_of_line-requires-clause-within
chunk_of_line-requires-clause-within g c =
    subst (λ (s : ScriptValue). c.args.line < length s.lines) (sym c.deref.ensures) (line_inside c.args.stage.now c.args.line c.requires.stage c.requires.line)

pub chunk_of_line-requires-clause-order : goal.chunk_of_line-requires-clause-order
chunk_of_line-requires-clause-order g c =
    let inside = line_inside c.args.stage.now c.args.line c.requires.stage c.requires.line in
    omega (arith, inside, c.requires.stage.playable.script.few_lines)

pub returns-in-Err-Malformed-clause-fed : goal.returns-in-Err-Malformed-clause-fed
returns-in-Err-Malformed-clause-fed g c =
    let e = c.in-Err-Malformed in
    line_without_event (arc_value c.args.stage.now.script) c.args.line (Malformed e.field-0-0 e.field-0-1) c.args.pass.track (rw (c.deref.ensures, e.field-0-is) at e.ensures)

pub returns-in-Err-OutOfMemory-clause-fed : goal.returns-in-Err-OutOfMemory-clause-fed
returns-in-Err-OutOfMemory-clause-fed g c = none_fed_yet c.args.pass.track _ record {}

pub feed-pass-requires-clause-short : goal.feed-pass-requires-clause-short
feed-pass-requires-clause-short g c =
    let inside = line_inside c.args.stage.now c.args.line c.requires.stage c.requires.line in
    subst (λ (b : List ℕ). length b ≤ max_text_bytes) (sym c.as_slice-bytes.ensures)
    (line_short (play_on c.args.stage.now) c.args.line c.in-Ok.chunk c.requires.stage.playable inside (rw c.deref.ensures at c.in-Ok.ensures))

pub overflow_cast-line : goal.overflow_cast-line
overflow_cast-line g c =
    let inside = line_inside c.args.stage.now c.args.line c.requires.stage c.requires.line in
    omega (arith, inside, c.requires.stage.playable.script.few_lines)

pub returns-clause-fed : goal.returns-clause-fed
returns-clause-fed g c =
    let script = arc_value c.args.stage.now.script in let chunk = c.in-Ok.chunk in
    let inside = line_inside c.args.stage.now c.args.line c.requires.stage c.requires.line in
    let read = rw c.deref.ensures at c.in-Ok.ensures in
    let fits = times_fit script c.args.line chunk c.requires.stage.playable.script inside read in
    let fed = rw (c.as_slice-bytes.ensures, to_z-of_z fits.0, to_z-of_z fits.1) at c.feed-pass.ensures.fed in
    line_fed script c.args.line chunk c.args.pass.track c.feed-pass.result.0.track c.feed-pass.result.1 c.repeats.result c.requires.stage.playable.script inside read fed
    c.repeats.ensures.counted c.repeats.ensures.wanting
