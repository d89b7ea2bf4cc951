use Rattle.std.proofs.Common.{◌≡◌, ◌-◌, ◌<◌, ◌∙◌, ◌++◌, ◌∷◌, [], length, take, List, Some, ℤ, FitsSigned, w64, to_z-of_z, sym, ap, subst, rules, arith}
use Rattle.std.proofs.lemmas.List.Elements.{All-push}
use Rattle.std.specs.Prelude.{All}
use Rattle.cff_font.specs.declared.machine.Machine.{Machine}
use Rattle.cff_font.specs.declared.tokens.Span.{Span}
use Rattle.cff_font.specs.Machines.{max_calls, operand_before_last, subroutine_named}
use Rattle.cff_font.specs.Ranges.{IsFileSpan}
use Rattle.cff_font.proofs.MachineLemmas.{called-there}
use Rattle.cff_font.proofs.machine.called.Goals as goal

pub returns-clause-value : goal.returns-clause-value
returns-clause-value c =
    let m = c.args.machine in
    let with : List Span → List ℤ → Machine = λ calls operands. record { place = c.in-Some.body; calls = calls; operands = operands; hints = m.hints; pen = m.pen; is_done = m.is_done } in
    let some : 0 < length m.operands = omega (arith, c.len-count.ensures, c.if-count-eq0.false) in
    let few : length m.calls < max_calls = omega (arith, c.len.ensures, c.if-len-ge-MAX_CALLS.false) in
    let fits : FitsSigned w64 c.operand_before_last-operand.result = search rules in
    let last = ap (λ operands. operand_before_last operands 0) c.as_slice.ensures in
    let here : Some c.in-Some.body ≡ subroutine_named c.args.bytes.now c.args.index.now (operand_before_last m.operands 0) =
    c.in-Some.ensures.value ∙ ap (subroutine_named c.args.bytes.now c.args.index.now) (to_z-of_z fits ∙ (c.operand_before_last-operand.ensures ∙ last)) in
    ap (λ calls. Some (with calls c.first_items.result)) c.in_ok-push.ensures.ok
    ∙ (ap (λ operands. Some (with (m.calls ++ m.place ∷ []) operands)) (c.first_items.ensures ∙ ap (λ n. take (n - 1) m.operands) c.len-count.ensures)
    ∙ called-there c.args.bytes.now c.args.index.now m c.in-Some.body some few here)

pub returns-clause-within : goal.returns-clause-within
returns-clause-within c =
    let m = c.args.machine in
    let calls : All IsFileSpan c.push.new.self = subst (All IsFileSpan) (sym c.in_ok-push.ensures.ok) (All-push IsFileSpan m.calls m.place c.requires.machine.calls c.requires.machine.place) in
    record { place = c.in-Some.ensures.within; calls = calls; few = c.requires.machine.few }
