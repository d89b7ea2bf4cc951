-- One digit more, modulo 2 ^ 32.
use Rattle.std.proofs.Common.{◌^◌, ap, ◌∙◌, arith}
use Rattle.std.proofs.lemmas.Grind.{common_steps}
use Rattle.std.specs.Char.{digit_value}
use Rattle.ass_num.proofs.NumberLaws.{mod_more}
use Rattle.ass_num.proofs.digits.low_digits.Goals as goal

pub loop-i-preserved : goal.loop-i-preserved
loop-i-preserved c = record {
  number = mod_more c.args.base c.args.text.now c.loop-i.i _ _ (2 ^ 32) (omega arith) c.loop-i.invariant.number (c.in-Some.ensures.value.1 ∙ ap digit_value c.from.ensures);
  count = grind (arith, common_steps);
}
