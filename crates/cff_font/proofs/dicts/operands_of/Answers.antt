use Rattle.std.proofs.Common.{◌≡◌, ◌-◌, ◌+◌, Some, None, true, false, sym, ap, ◌∙◌, rules, Option, ℕ, FitsSigned, w64, to_z, of_z, to_z-of_z}
use Rattle.std.specs.Prelude.{◌==◌}
use Rattle.cff_font.specs.declared.dicts.Operands.{Operands}
use Rattle.cff_font.specs.declared.tokens.Token.TheVariants.{Number, Operator}
use Rattle.cff_font.specs.Dicts.{dict_token, dict_tokens, no_operands, operands_in}
use Rattle.cff_font.proofs.Turns.{operands-broken, operands-found, operands-number, operands-other, operands-spent}
use Rattle.cff_font.proofs.dicts.operands_of.Goals as goal
use Rattle.cff_font.proofs.dicts.operands_of.Goals.{in-Number, in-Operator+else-other-code}

pub returns-in_err-value : goal.returns-in_err-value
returns-in_err-value c =
    let here : None ≡ dict_token c.args.bytes.now c.args.dict.to c.loop-k.at = c.in_err-value.ensures in
    c.from_residual.ensures ∙ (sym (operands-broken c.args.bytes.now c.args.code c.loop-k.operands c.args.dict.to c.loop-k._k c.loop-k.at c.loop-k-test.true here) ∙ c.loop-k.invariant)

pub returns-then-other-code : goal.returns-then-other-code
returns-then-other-code c =
    let here : Some (Operator c.in-Operator.other c.in-Operator.behind) ≡ dict_token c.args.bytes.now c.args.dict.to c.loop-k.at =
    ap Some (sym c.in-Operator.is) ∙ c.in_ok-value.ensures in
    let same : (c.in-Operator.other == c.args.code) ≡ true = search rules in
    sym (operands-found c.args.bytes.now c.args.code c.loop-k.operands c.args.dict.to c.loop-k._k c.loop-k.at c.in-Operator.other c.in-Operator.behind c.loop-k-test.true here same) ∙ c.loop-k.invariant

pub loop-k-preserved : goal.loop-k-preserved
loop-k-preserved c =
    let rest : Operands → ℕ → Option Operands = λ operands at. operands_in c.args.code operands (dict_tokens c.args.bytes.now c.args.dict.to (c.args.dict.to - (c.loop-k._k + 1)) at) in
    elim c.match-branch-2.branch [
      | in-Number w ↦
          let here : Some (Number w.in-Number.value w.in-Number.behind) ≡ dict_token c.args.bytes.now c.args.dict.to c.loop-k.at =
          ap Some (sym w.in-Number.is) ∙ c.in_ok-value.ensures in
          let before : FitsSigned w64 c.loop-k.operands.last = search rules in
          let last : FitsSigned w64 w.in-Number.value = search rules in
          ap (λ operands. rest operands c.match-branch-2.at) w.operands-is
          ∙ (ap (λ z. rest (record { from = c.loop-k.operands.from; before = z; last = to_z w64 (of_z w64 w.in-Number.value) }) c.match-branch-2.at) (to_z-of_z before)
          ∙ (ap (λ z. rest (record { from = c.loop-k.operands.from; before = c.loop-k.operands.last; last = z }) c.match-branch-2.at) (to_z-of_z last)
          ∙ (ap (rest (record { from = c.loop-k.operands.from; before = c.loop-k.operands.last; last = w.in-Number.value })) w.at-is
          ∙ (sym (operands-number c.args.bytes.now c.args.code c.loop-k.operands c.args.dict.to c.loop-k._k c.loop-k.at w.in-Number.value w.in-Number.behind c.loop-k-test.true here)
          ∙ c.loop-k.invariant))))
      | in-Operator+else-other-code w ↦
          let here : Some (Operator w.in-Operator.other w.in-Operator.behind) ≡ dict_token c.args.bytes.now c.args.dict.to c.loop-k.at =
          ap Some (sym w.in-Operator.is) ∙ c.in_ok-value.ensures in
          let differs : (w.in-Operator.other == c.args.code) ≡ false = search rules in
          ap (λ operands. rest operands c.match-branch-2.at) (w.operands-is ∙ w.no_operands-operands-in-Operator.ensures)
          ∙ (ap (rest (no_operands w.in-Operator.behind)) w.at-is
          ∙ (sym (operands-other c.args.bytes.now c.args.code c.loop-k.operands c.args.dict.to c.loop-k._k c.loop-k.at w.in-Operator.other w.in-Operator.behind c.loop-k-test.true here differs)
          ∙ c.loop-k.invariant))
    ]

pub returns : goal.returns
returns c = sym (operands-spent c.args.bytes.now c.args.code c.loop-k.operands c.args.dict.to c.loop-k._k c.loop-k.at c.loop-k-test.false) ∙ c.loop-k.invariant
