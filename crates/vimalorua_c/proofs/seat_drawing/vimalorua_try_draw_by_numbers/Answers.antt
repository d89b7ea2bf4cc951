use Rattle.std.proofs.Common.{FitsSigned, inr, refl, rules, to_z-of_z, w32}
use Rattle.vimalorua_c.proofs.SeatLemmas.{good_draw}
use Rattle.vimalorua_c.proofs.seat_drawing.vimalorua_try_draw_by_numbers.Goals as goal

pub returns : goal.returns
returns c =
    let fits : FitsSigned w32 c.draw_by_seat.result = search rules in
    let seen = rw (to_z-of_z c.ranges.at) at c.if-not-may_be_seen.ensures.0 refl in
    rw (to_z-of_z fits) (inr (
      good_draw c.args.at c.args.numbers.now c.args.out.now seen c.if-out-numbers.false,
      rw (c.view_numbered.ensures, to_z-of_z c.ranges.at) at c.draw_by_seat.ensures,
    ))
