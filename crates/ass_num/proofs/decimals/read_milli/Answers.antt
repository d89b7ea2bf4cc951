-- The number behind the sign, and the sign.
use Rattle.std.proofs.Common.{◌≡◌, take, arith}
use Rattle.std.proofs.lemmas.Int.{ints}
use Rattle.std.proofs.lemmas.List.{take_rest}
use Rattle.ass_num.specs.Numerals.{signed}
use Rattle.ass_num.proofs.SignFronts.{milli_front_at, milli_none_at}
use Rattle.ass_num.proofs.decimals.read_milli.Goals as goal
use Rattle.ass_num.proofs.decimals.read_milli.Goals.{then-minus, else-minus}

pub returns-in_err-thousandths-clause-none : goal.returns-in_err-thousandths-clause-none
returns-in_err-thousandths-clause-none c =
    rw c.from_residual.ensures (milli_none_at c.args.text.now _ c.sign-minus.ensures.len (simp take_rest at c.in_err-thousandths.ensures.none))

pub returns-clause-some : goal.returns-clause-some
returns-clause-some c =
    let h = c.in_ok-thousandths.thousandths in
    let sign = c.sign-minus.ensures.minus h in
    let value : c.if-minus.result ≡ signed (take c.sign-minus.result.1 c.args.text.now) h = elim c.if-minus.branch [
      | then-minus w ↦ omega (arith, ints, rw w.if-minus.true at sign, c.in_ok-thousandths.ensures.held, w.result-is)
      | else-minus w ↦ omega (arith, ints, rw w.if-minus.false at sign, c.in_ok-thousandths.ensures.held, w.result-is)
    ] in
    rw c.if-minus.result-is (milli_front_at c.args.text.now _ _ h _ c.sign-minus.ensures.len value (simp take_rest at c.in_ok-thousandths.ensures.some))
