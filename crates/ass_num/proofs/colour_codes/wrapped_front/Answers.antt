-- The sign and the digits, modulo 2 ^ 32.
use Rattle.std.proofs.Common.{◌+◌, ◌%◌, take, drop, inl, inr, ap, ◌∙◌, arith}
use Rattle.std.proofs.lemmas.List.{take_rest}
use Rattle.ass_num.specs.Numerals.{number_of}
use Rattle.ass_num.proofs.ColourFronts.{wrapped_none, wrapped_front, low_signed}
use Rattle.ass_num.proofs.colour_codes.wrapped_front.Goals as goal
use Rattle.ass_num.proofs.colour_codes.wrapped_front.Goals.{then-minus, else-minus}

pub returns-then-digits-eq0-clause-none : goal.returns-then-digits-eq0-clause-none
returns-then-digits-eq0-clause-none c =
    wrapped_none c.args.text.now _ _ c.sign-minus.ensures.len (simp take_rest at c.low_digits-number.ensures.count) c.if-digits-eq0.true

pub returns-clause-some : goal.returns-clause-some
returns-clause-some c =
    let sign = take c.sign-minus.result.1 c.args.text.now in
    let digits = take c.low_digits-number.result.1 (drop c.sign-minus.result.1 c.args.text.now) in
    wrapped_front c.args.text.now _ _ c.sign-minus.ensures.len (simp take_rest at c.low_digits-number.ensures.count) _
    (low_signed sign c.sign-minus.result.0 (number_of 10 digits) c.low_digits-number.result.0 _ (c.sign-minus.ensures.minus (number_of 10 digits)) (simp take_rest at c.low_digits-number.ensures.number)
    (elim c.if-minus.branch [
      | then-minus w ↦ inl (w.if-minus.true, omega arith, ap (λ z. (z + c.low_digits-number.result.0) % 4294967296) w.low-is ∙ w.wrapping_neg-low.ensures)
      | else-minus w ↦ inr (w.if-minus.false, w.low-is)
    ]))
    (omega arith)
