-- The marks and the digits.
use Rattle.std.proofs.Common.{arith}
use Rattle.std.proofs.lemmas.List.{take_rest}
use Rattle.ass_num.proofs.ColourFronts.{marked_none, marked_front}
use Rattle.ass_num.proofs.colour_codes.colour_front.Goals as goal

pub returns-then-digits-eq0-clause-none : goal.returns-then-digits-eq0-clause-none
returns-then-digits-eq0-clause-none c =
    marked_none 32 c.args.text.now _ _ c.marks-before.ensures.count (simp take_rest at c.low_digits-number.ensures.count) c.if-digits-eq0.true

pub returns-else-digits-eq0-clause-some : goal.returns-else-digits-eq0-clause-some
returns-else-digits-eq0-clause-some c =
    marked_front 32 c.args.text.now _ _ c.marks-before.ensures.count (simp take_rest at c.low_digits-number.ensures.count) _
    (simp take_rest at c.low_digits-number.ensures.number) (omega arith)
