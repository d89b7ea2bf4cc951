use Rattle.std.proofs.Common.{◌≡◌, Err, Ok, map, length, sym, ◌∙◌, ap, subst, arith, rules}
use Rattle.std.specs.Prelude.{ℕ, List, Result}
use Rattle.bstr.specs.Text.{lines_of, without_terminator}
use Rattle.ass_num.specs.Blanks.{trimmed}
use Rattle.ass_script.specs.Words.{past_mark}
use Rattle.script_fonts.specs.Attachments.{UnlessMemory, bare_lines, script_fonts_of}
use Rattle.script_fonts.specs.Steps.{line_step, no_lines_read}
use Rattle.script_fonts.specs.declared.font.ScriptFont.{ScriptFont}
use Rattle.script_fonts.specs.declared.reading.Reading.{Reading}
use Rattle.script_fonts.specs.declared.refusal.ScriptFontsRefusal.{ScriptFontsRefusal}
use Rattle.script_fonts.proofs.Lengths.{past_mark_shorter}
use Rattle.script_fonts.proofs.Walk.{answer_from, number_after, read_on, read_stops, read_end, read_begins}
use Rattle.script_fonts.proofs.read.read_script_fonts.Goals as goal

pub loop-line-init : goal.loop-line-init
loop-line-init c =
    let marked = c.past_mark.ensures in
    let given : c.into_iter-line-iterator.result ≡ map without_terminator (lines_of (past_mark c.args.bytes.now)) =
    c.into_iter-line-iterator.ensures.into_iter_gives ∙ (c.lines-line-items.ensures.value ∙ ap (λ (bytes : List ℕ). map without_terminator (lines_of bytes)) marked) in
    let first : c.new-reading.result.number ≡ 1 = ap (λ (r : Reading). r.number) c.new-reading.ensures in
    record {
      read = ap (λ (r : Reading). answer_from r (map trimmed c.into_iter-line-iterator.result)) c.new-reading.ensures
          ∙ (ap (λ (lines : List (List ℕ)). answer_from no_lines_read (map trimmed lines)) given ∙ read_begins (bare_lines c.args.bytes.now));
      counted = omega (arith, first, ap length c.into_iter-line-iterator.ensures.into_iter_gives, c.lines-line-items.ensures.len, ap length marked, past_mark_shorter c.args.bytes.now);
    }

pub returns-in_err-reading : goal.returns-in_err-reading
returns-in_err-reading c =
    let refusal = c.in_err-reading.field-0.0 in
    let same : c.from_residual.result ≡ Err refusal = search rules in
    let here = ap (λ (lines : List (List ℕ)). answer_from c.loop-line.reading (map trimmed lines)) (sym c.in-Some.ensures.steps) ∙ c.loop-line.invariant.read in
    rw same
    (read_stops (trimmed c.in-Some.line.now) (map trimmed c.next.new.self) c.loop-line.reading (script_fonts_of c.args.bytes.now) refusal here
    (subst (λ (line : List ℕ). UnlessMemory (line_step line c.loop-line.reading) (Err refusal)) c.trimmed.ensures c.in_err-reading.ensures))

pub loop-line-preserved : goal.loop-line-preserved
loop-line-preserved c =
    let next = c.in_ok-reading.reading in
    let here = ap (λ (lines : List (List ℕ)). answer_from c.loop-line.reading (map trimmed lines)) (sym c.in-Some.ensures.steps) ∙ c.loop-line.invariant.read in
    let stepped : line_step (trimmed c.in-Some.line.now) c.loop-line.reading ≡ Ok next =
    subst (λ (line : List ℕ). line_step line c.loop-line.reading ≡ Ok next) c.trimmed.ensures c.in_ok-reading.ensures in
    let number = number_after (trimmed c.in-Some.line.now) c.loop-line.reading next stepped in
    record {
      read = sym (read_on (trimmed c.in-Some.line.now) (map trimmed c.next.new.self) c.loop-line.reading next stepped) ∙ here;
      counted = omega (arith, number, ap length c.in-Some.ensures.steps, c.loop-line.invariant.counted);
    }

pub returns : goal.returns
returns c =
    let reading = c.loop-line.reading in
    let none = ap (λ (lines : List (List ℕ)). answer_from reading (map trimmed lines)) (sym c.in-None.ensures.steps.0) ∙ c.loop-line.invariant.read in
    subst (λ (wanted : Result (List ScriptFont) ScriptFontsRefusal). UnlessMemory wanted c.made.result) (sym (read_end reading) ∙ none) c.made.ensures
