-- One to six digits and the byte behind them, or what is missing of them.
use Rattle.std.proofs.Common.{inl, inr, arith}
use Rattle.ass_num.proofs.Clocks.{field_some, field_none, part_small}
use Rattle.ass_num.proofs.times.time_field.Goals as goal
use Rattle.ass_num.proofs.times.time_field.Goals.{then-digits-eq0-via-then-digits-eq0, then-digits-eq0-via-else-digits-eq0+then-digits-gt6, then-digits-eq0-via-else-digits-eq0+else-digits-gt6+then-digits-text, then-digits-eq0-via-else-digits-eq0+else-digits-gt6+else-digits-text+then-text-digits}

pub returns-then-digits-eq0-clause-none : goal.returns-then-digits-eq0-clause-none
returns-then-digits-eq0-clause-none c =
    field_none c.args.mark c.args.text.now c.decimal_digits-number.result.1 c.requires c.decimal_digits-number.ensures.count (elim c.then-digits-eq0.branch [
      | then-digits-eq0-via-then-digits-eq0 w ↦ inl w.if-digits-eq0.true
      | then-digits-eq0-via-else-digits-eq0+then-digits-gt6 w ↦ inr (inl w.if-digits-gt6.true)
      | then-digits-eq0-via-else-digits-eq0+else-digits-gt6+then-digits-text w ↦ inr (inr (inl w.if-digits-text.true))
      | then-digits-eq0-via-else-digits-eq0+else-digits-gt6+else-digits-text+then-text-digits w ↦ inr (inr (inr w.if-text-digits.true))
    ])

pub returns-clause-some : goal.returns-clause-some
returns-clause-some c =
    let digits = c.decimal_digits-number.ensures in
    field_some c.args.mark c.args.text.now _ _ digits.number digits.count (omega arith) (omega arith) (omega arith) c.if-text-digits.false

pub returns-clause-small : goal.returns-clause-small
returns-clause-small c =
    let digits = c.decimal_digits-number.ensures in
    let field = field_some c.args.mark c.args.text.now _ _ digits.number digits.count (omega arith) (omega arith) (omega arith) c.if-text-digits.false in
    omega (arith, field.value, part_small field.digits field.part)
