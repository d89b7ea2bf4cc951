-- One digit more, held.
use Rattle.std.proofs.Common.{arith}
use Rattle.std.proofs.lemmas.Grind.{common_steps}
use Rattle.ass_num.proofs.NumberLaws.{number_of_more, min_step}
use Rattle.ass_num.proofs.digits.decimal_digits.Goals as goal

pub loop-i-preserved : goal.loop-i-preserved
loop-i-preserved c =
    let more = number_of_more 10 c.args.text.now c.loop-i.i (omega arith) in
    record {
      number = grind (arith, more, min_step, c.in-Some.ensures);
      count = grind (arith, common_steps);
    }
