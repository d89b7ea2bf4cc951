-- Blanks, a sign, digits and blanks, or what is missing of them.
use Rattle.std.proofs.Common.{inl, inr, refl, sym, arith}
use Rattle.std.proofs.lemmas.Int.{ints}
use Rattle.std.proofs.lemmas.List.{take_rest}
use Rattle.ass_num.proofs.WholeLaws.{whole_from_shape, no_whole}
use Rattle.ass_num.proofs.Wholes.{whole_none, whole_some}
use Rattle.ass_num.proofs.decimals.read_whole.Goals as goal
use Rattle.ass_num.proofs.decimals.read_whole.Goals.{then-digits-eq0-via-then-digits-eq0, then-digits-eq0-via-else-digits-eq0+then-number-gt-MAX_WHOLE, then-digits-eq0-via-else-digits-eq0+else-number-gt-MAX_WHOLE+then-end-blanks_before}

pub returns-then-digits-eq0-clause-value : goal.returns-then-digits-eq0-clause-value
returns-then-digits-eq0-clause-value c =
    let t = c.args.text.now in
    let before = c.blanks_before-before.ensures.count in
    let sign = simp take_rest at c.sign-minus.ensures.len in
    let digits = simp take_rest at c.decimal_digits-number.ensures.count in
    let number = simp take_rest at c.decimal_digits-number.ensures.number in
    no_whole t (λ v m. elim c.then-digits-eq0.branch [
      | then-digits-eq0-via-then-digits-eq0 w ↦ whole_none t _ _ _ _ _ before sign digits number refl (inl w.if-digits-eq0.true) v m
      | then-digits-eq0-via-else-digits-eq0+then-number-gt-MAX_WHOLE w ↦ whole_none t _ _ _ _ _ before sign digits number refl (inr (inl w.if-number-gt-MAX_WHOLE.true)) v m
      | then-digits-eq0-via-else-digits-eq0+else-number-gt-MAX_WHOLE+then-end-blanks_before w ↦
          whole_none t _ _ _ _ _ before sign digits number (simp take_rest at w.blanks_before.ensures.count) (inr (inr w.if-end-blanks_before.true)) v m
    ])

pub returns-then-minus-clause-value : goal.returns-then-minus-clause-value
returns-then-minus-clause-value c =
    let sign = rw c.if-minus.true at (simp take_rest at c.sign-minus.ensures.minus c.decimal_digits-number.result.0) in
    sym (whole_from_shape _ _ (whole_some c.args.text.now _ _ _ _ _ c.blanks_before-before.ensures.count (simp take_rest at c.sign-minus.ensures.len)
    (simp take_rest at c.decimal_digits-number.ensures.count) (simp take_rest at c.decimal_digits-number.ensures.number) (simp take_rest at c.blanks_before.ensures.count)
    (omega arith) (omega arith) (omega arith) _ (omega (arith, ints, sign))))

pub returns-else-minus-clause-value : goal.returns-else-minus-clause-value
returns-else-minus-clause-value c =
    let sign = rw c.if-minus.false at (simp take_rest at c.sign-minus.ensures.minus c.decimal_digits-number.result.0) in
    sym (whole_from_shape _ _ (whole_some c.args.text.now _ _ _ _ _ c.blanks_before-before.ensures.count (simp take_rest at c.sign-minus.ensures.len)
    (simp take_rest at c.decimal_digits-number.ensures.count) (simp take_rest at c.decimal_digits-number.ensures.number) (simp take_rest at c.blanks_before.ensures.count)
    (omega arith) (omega arith) (omega arith) _ (omega (arith, ints, sign))))
