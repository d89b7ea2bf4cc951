use Rattle.std.proofs.Common.{◌≡◌, ◌<◌, FitsSigned, length, ℤ, rules, subst, sym, ◌∙◌, to_z-of_z, w32, arith}
use Rattle.vimalorua_c.specs.Alpha.{IsAlphaTried}
use Rattle.vimalorua_c.proofs.AlphaLemmas.{alpha_drawn, nothing_drawn, refused_draw}
use Rattle.vimalorua_c.proofs.seat_alpha.alpha_drawn_by.Goals as goal

pub returns-then-font_count-eq0 : goal.returns-then-font_count-eq0
returns-then-font_count-eq0 c =
    let none : length c.args.seat.fonts ≡ 0 = omega (arith, c.font_count.ensures, c.if-font_count-eq0.true) in
    nothing_drawn c.args.at c.args.frame.now c.args.form c.args.out.now c.args.entries.now c.args.seat c.requires.untold none

pub returns-in-Ok : goal.returns-in-Ok
returns-in-Ok c =
    let some : 0 < length c.args.seat.fonts = omega (arith, c.font_count.ensures, c.if-font_count-eq0.false) in
    let shows = rw (c.in-Ok.is, to_z-of_z c.ranges.at) at c.draw_alpha_in-seat.ensures.shown in
    alpha_drawn c.args.at c.args.frame.now c.args.form c.args.out.now c.draw_alpha_in-seat.new.bytes c.in-Ok.seen c.args.seat c.draw_alpha_in-seat.result.0 some shows c.draw_alpha_in-seat.ensures.same

pub returns-in-Err : goal.returns-in-Err
returns-in-Err c =
    let some : 0 < length c.args.seat.fonts = omega (arith, c.font_count.ensures, c.if-font_count-eq0.false) in
    let fits : FitsSigned w32 c.look_status.result = search rules in
    let refused = rw c.in-Err.is at c.draw_alpha_in-seat.ensures.refused in
    let stays = rw c.in-Err.is at c.draw_alpha_in-seat.ensures.bytes in
    let new = c.draw_alpha_in-seat.result.0 in
    subst (λ (s : ℤ). IsAlphaTried c.args.at c.args.frame.now c.args.form c.args.out.now c.draw_alpha_in-seat.new.bytes c.args.entries.now s c.args.seat new) (sym (to_z-of_z fits ∙ c.look_status.ensures))
    (refused_draw c.args.at c.args.frame.now c.args.form c.args.out.now c.draw_alpha_in-seat.new.bytes c.args.entries.now c.in-Err.refusal c.args.seat new stays c.requires.untold some refused c.draw_alpha_in-seat.ensures.same)
