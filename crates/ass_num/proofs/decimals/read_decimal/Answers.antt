-- The digits, and behind a point the digits there, are the longest front.
use Rattle.std.proofs.Common.{arith}
use Rattle.std.proofs.lemmas.List.{take_rest}
use Rattle.ass_num.proofs.DecimalFronts.{point_front, point_none, plain_front, plain_none}
use Rattle.ass_num.proofs.decimals.read_decimal.Goals as goal
use Rattle.ass_num.proofs.decimals.read_decimal.Goals.{else-digits-text-via-then-digits-text+else-text-digits-eq46, else-digits-text-via-else-digits-text}

pub returns-then-digits-more-eq0-clause-none : goal.returns-then-digits-more-eq0-clause-none
returns-then-digits-more-eq0-clause-none c =
    point_none c.args.text.now _ _ c.decimal_digits-whole.ensures.count (simp take_rest at c.fraction_digits-fraction.ensures.count) c.if-digits-more-eq0.true

pub returns-else-digits-more-eq0-clause-some : goal.returns-else-digits-more-eq0-clause-some
returns-else-digits-more-eq0-clause-some c =
    let digits = c.decimal_digits-whole.ensures in
    let fraction = c.fraction_digits-fraction.ensures in
    rw c.min.ensures
    (point_front c.args.text.now _ _ _ _ digits.number digits.count c.if-digits-text.true c.if-text-digits-eq46.true (simp take_rest at fraction.thousandths) (simp take_rest at fraction.count) (omega arith))

pub returns-then-digits-eq0-clause-none : goal.returns-then-digits-eq0-clause-none
returns-then-digits-eq0-clause-none c =
    plain_none c.args.text.now c.decimal_digits-whole.result.1 c.decimal_digits-whole.ensures.count (elim c.else-digits-text.branch [
      | else-digits-text-via-then-digits-text+else-text-digits-eq46 w ↦ λ _. w.if-text-digits-eq46.false
      | else-digits-text-via-else-digits-text w ↦ λ inside. absurd (omega arith)
    ]) c.if-digits-eq0.true

pub returns-else-digits-eq0-clause-some : goal.returns-else-digits-eq0-clause-some
returns-else-digits-eq0-clause-some c =
    let digits = c.decimal_digits-whole.ensures in
    rw c.min-else-digits-eq0.ensures
    (plain_front c.args.text.now _ _ digits.number digits.count (elim c.else-digits-text.branch [
      | else-digits-text-via-then-digits-text+else-text-digits-eq46 w ↦ λ _. w.if-text-digits-eq46.false
      | else-digits-text-via-else-digits-text w ↦ λ inside. absurd (omega arith)
    ]) (omega arith))
