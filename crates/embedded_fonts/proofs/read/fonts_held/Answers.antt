use Rattle.std.proofs.Common.{◌≡◌, ◌+◌, ◌∷◌, ◌++◌, List, length, Err, Ok, ap, sym, subst, ◌∙◌, rules, arith}
use Rattle.std.specs.Vec.Iter.{into_iter_items}
use Rattle.bdf_font.specs.Fonts.{FontValue}
use Rattle.script_fonts.specs.declared.font.ScriptFont.{ScriptFont}
use Rattle.embedded_fonts.specs.Embedded.{AreHeldFonts}
use Rattle.embedded_fonts.proofs.HeldLemmas.{HeldSoFar, held_done, held_next, held_stopped}
use Rattle.embedded_fonts.proofs.read.fonts_held.Goals as goal

pub returns-in_err-more-clause-answer : goal.returns-in_err-more-clause-answer
returns-in_err-more-clause-answer c =
    let at = c.loop-file in
    let file = c.in-Some.file in
    let left = into_iter_items c.next.new.self in
    let why = c.in_err-more.field-0.0 in
    let steps : into_iter_items at.file-iterator ≡ file ∷ left = c.in-Some.ensures.steps.0 in
    let held = subst (λ (rest : List ScriptFont). HeldSoFar c.args.files at.place at.fonts.items rest) steps at.invariant.0 in
    let same : c.from_residual-in_err-more.result ≡ Err why = search rules in
    rw same (λ other. held_stopped c.args.files at.place at.fonts.items file left why held c.in_err-more.ensures.answer (λ e. other (ap Err e)))

pub loop-file-preserved : goal.loop-file-preserved
loop-file-preserved c =
    let at = c.loop-file in
    let file = c.in-Some.file in
    let more = c.in_ok-more.more in
    let left = into_iter_items c.next.new.self in
    let steps : into_iter_items at.file-iterator ≡ file ∷ left = c.in-Some.ensures.steps.0 in
    let one_less = c.in-Some.ensures.steps.1 in
    let lengths = ap length steps in
    let held = subst (λ (rest : List ScriptFont). HeldSoFar c.args.files at.place at.fonts.items rest) steps at.invariant.0 in
    let put = c.in_ok-append.ensures.items in
    let whole = c.into_vec.ensures in
    let pushed : c.append.new.self.items ≡ at.fonts.items ++ more = cc in (
      subst (λ (fonts : List FontValue). HeldSoFar c.args.files (at.place + 1) fonts left) (sym pushed)
          (held_next c.args.files at.place at.fonts.items more file left held c.in_ok-more.ensures.answer c.in_ok-more.ensures.fonts),
      omega (arith, at.invariant.1, one_less, lengths),
    )

pub returns-clause-answer : goal.returns-clause-answer
returns-clause-answer c =
    let at = c.loop-file in
    let made : c.from_vec.result ≡ at.fonts.items = search rules in
    let done = held_done c.args.files at.place at.fonts.items (into_iter_items at.file-iterator) at.invariant.0 (sym at.invariant.1 ∙ c.in-None.ensures.steps.0) in
    λ other. subst (λ (fonts : List FontValue). AreHeldFonts 0 c.args.files (Ok fonts)) (sym made) done
