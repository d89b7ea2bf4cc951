use Rattle.std.proofs.Common.{◌≡◌, FitsSigned, to_z-of_z, sym, ap, ◌∙◌, subst, rules, w64}
use Rattle.std.specs.Prelude.{IfOk}
use Rattle.cff_font.specs.Machines.{behind_drawing, operand_before_last}
use Rattle.cff_font.proofs.StepLemmas.{both-move, level-move, upright-move}
use Rattle.cff_font.proofs.steps.behind_drawing.Goals as goal

pub returns-in-21-clause-value : goal.returns-in-21-clause-value
returns-in-21-clause-value c =
    let before : FitsSigned w64 c.operand_before_last-before.result = search rules in
    let last : FitsSigned w64 c.operand_before_last-last.result = search rules in
    let first = c.operand_before_last-before.ensures ∙ ap (λ xs. operand_before_last xs 1) c.as_slice.ensures in
    let second = c.operand_before_last-last.ensures ∙ ap (λ xs. operand_before_last xs 0) c.as_slice-2.ensures in
    subst (λ o. IfOk c.moved_by.result (λ behind. behind ≡ o)) (both-move c.args.machine c.operand_before_last-before.result c.operand_before_last-last.result first second ∙ ap (behind_drawing c.args.machine) (sym c.in-21.is))
    (simp to_z-of_z at c.moved_by.ensures.value)

pub returns-in-22-clause-value : goal.returns-in-22-clause-value
returns-in-22-clause-value c =
    let last : FitsSigned w64 c.operand_before_last-last.result = search rules in
    let second = c.operand_before_last-last.ensures ∙ ap (λ xs. operand_before_last xs 0) c.as_slice-2.ensures in
    subst (λ o. IfOk c.moved_by-in-22.result (λ behind. behind ≡ o)) (level-move c.args.machine c.operand_before_last-last.result second ∙ ap (behind_drawing c.args.machine) (sym c.in-22.is))
    (simp to_z-of_z at c.moved_by-in-22.ensures.value)

pub returns-in-4-clause-value : goal.returns-in-4-clause-value
returns-in-4-clause-value c =
    let last : FitsSigned w64 c.operand_before_last-last.result = search rules in
    let second = c.operand_before_last-last.ensures ∙ ap (λ xs. operand_before_last xs 0) c.as_slice-2.ensures in
    subst (λ o. IfOk c.moved_by-in-4.result (λ behind. behind ≡ o)) (upright-move c.args.machine c.operand_before_last-last.result second ∙ ap (behind_drawing c.args.machine) (sym c.in-4.is))
    (simp to_z-of_z at c.moved_by-in-4.ensures.value)
