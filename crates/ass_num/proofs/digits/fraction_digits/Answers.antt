-- One digit more behind the point.
use Rattle.std.proofs.Common.{◌/◌, ap, ◌∙◌, arith}
use Rattle.std.proofs.lemmas.Grind.{common_steps}
use Rattle.std.specs.Char.{digit_value}
use Rattle.ass_num.proofs.NumberLaws.{thousandths_more, place_step, room_step}
use Rattle.ass_num.proofs.digits.fraction_digits.Goals as goal

pub overflow_add-thousandths : goal.overflow_add-thousandths
overflow_add-thousandths c =
    grind (arith, room_step c.loop-i.thousandths c.loop-i.place c.from-in-loop-i.result c.loop-i.invariant.room (omega (arith, c.in-Some.ensures.value)))

pub loop-i-preserved : goal.loop-i-preserved
loop-i-preserved c = record {
  room = (room_step c.loop-i.thousandths c.loop-i.place c.from-in-loop-i.result c.loop-i.invariant.room (omega (arith, c.in-Some.ensures.value))).1;
  thousandths =
      thousandths_more c.args.text.now c.loop-i.i _ _ _ (omega arith) c.loop-i.invariant.thousandths c.loop-i.invariant.place
      (c.from-in-loop-i.ensures ∙ c.in-Some.ensures.value.1 ∙ ap digit_value c.from.ensures) (omega (arith, c.in-Some.ensures.value));
  place = ap (λ z. z / 10) c.loop-i.invariant.place ∙ place_step c.loop-i.i;
  count = grind (arith, common_steps);
}
