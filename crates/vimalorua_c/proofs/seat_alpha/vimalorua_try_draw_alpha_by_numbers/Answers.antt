use Rattle.std.proofs.Common.{FitsSigned, inr, refl, rules, to_z-of_z, w32, arith}
use Rattle.vimalorua_c.proofs.AlphaLemmas.{good_alpha_draw}
use Rattle.vimalorua_c.proofs.seat_alpha.vimalorua_try_draw_alpha_by_numbers.Goals as goal

pub returns : goal.returns
returns c =
    let fits : FitsSigned w32 c.draw_alpha_by_seat.result = search rules in
    let seen = rw (to_z-of_z c.ranges.at) at c.if-not-may_be_seen.ensures.0 refl in
    rw (to_z-of_z fits) (inr (
      good_alpha_draw c.args.at c.args.numbers.now c.args.form c.args.out.now seen (omega (arith, c.if-form-gt1.false)) c.if-out-numbers.false,
      rw (c.view_numbered.ensures, c.form_numbered.ensures, to_z-of_z c.ranges.at) at c.draw_alpha_by_seat.ensures,
    ))
