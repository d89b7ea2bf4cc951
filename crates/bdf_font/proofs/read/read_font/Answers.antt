use Rattle.std.proofs.Common.{◌≡◌, ◌∷◌, [], Err, sym, ◌∙◌, ap, arith, length, inl}
use Rattle.bdf_font.specs.declared.cause.FontCause.TheVariants.{NoEnd}
use Rattle.bdf_font.specs.declared.cause.FontRefusal.TheVariants.{BadFont}
use Rattle.bdf_font.specs.Lines.{text_lines}
use Rattle.bdf_font.proofs.Walk.{lines_read, read_none}
use Rattle.bdf_font.proofs.ReadLemmas.{read_on, read_stops, answers, answers_only}
use Rattle.bdf_font.proofs.read.read_font.Goals as goal

pub loop-line-preserved : goal.loop-line-preserved
loop-line-preserved c =
    let before = c.loop-line.invariant in
    let here : c.loop-line.line-iterator ≡ c.in-Some.line.now ∷ c.next.new.self = c.in-Some.ensures.steps in
    record {
      read = sym (read_on c.loop-line.number c.in-Some.line.now c.next.new.self c.loop-line.reading c.line.new.self c.in-Ok.ensures.read)
          ∙ (ap (λ lines. lines_read c.loop-line.number lines c.loop-line.reading) (sym here) ∙ before.read);
      sound = c.in-Ok.ensures.sound;
      counted = omega (arith, ap length here, before.counted);
    }

pub returns-in-Err-clause-answer : goal.returns-in-Err-clause-answer
returns-in-Err-clause-answer c =
    answers (text_lines c.args.bytes.now) c.answer.result (lines_read c.loop-line.number (c.in-Some.line.now ∷ c.next.new.self) c.loop-line.reading)
    (ap (λ lines. lines_read c.loop-line.number lines c.loop-line.reading) (sym c.in-Some.ensures.steps) ∙ c.loop-line.invariant.read)
    (read_stops c.loop-line.number c.in-Some.line.now c.next.new.self c.loop-line.reading c.line.new.self c.in-Err.stop c.answer.result c.in-Err.ensures.read c.answer.ensures.answer)

pub returns-in-Err-clause-only : goal.returns-in-Err-clause-only
returns-in-Err-clause-only c =
    answers_only (text_lines c.args.bytes.now) c.answer.result (lines_read c.loop-line.number (c.in-Some.line.now ∷ c.next.new.self) c.loop-line.reading)
    (ap (λ lines. lines_read c.loop-line.number lines c.loop-line.reading) (sym c.in-Some.ensures.steps) ∙ c.loop-line.invariant.read)
    (read_stops c.loop-line.number c.in-Some.line.now c.next.new.self c.loop-line.reading c.line.new.self c.in-Err.stop c.answer.result c.in-Err.ensures.read c.answer.ensures.answer)

pub returns-clause-answer : goal.returns-clause-answer
returns-clause-answer c =
    answers (text_lines c.args.bytes.now) (Err (BadFont c.loop-line.number NoEnd)) (lines_read c.loop-line.number [] c.loop-line.reading)
    (ap (λ lines. lines_read c.loop-line.number lines c.loop-line.reading) (sym c.in-None.ensures.steps.0) ∙ c.loop-line.invariant.read)
    (inl (sym (read_none c.loop-line.number c.loop-line.reading)))

pub returns-clause-only : goal.returns-clause-only
returns-clause-only c =
    answers_only (text_lines c.args.bytes.now) (Err (BadFont c.loop-line.number NoEnd)) (lines_read c.loop-line.number [] c.loop-line.reading)
    (ap (λ lines. lines_read c.loop-line.number lines c.loop-line.reading) (sym c.in-None.ensures.steps.0) ∙ c.loop-line.invariant.read)
    (inl (sym (read_none c.loop-line.number c.loop-line.reading)))
