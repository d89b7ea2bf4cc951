use Rattle.std.proofs.Common.{◌≡◌, ◌<◌, FitsSigned, length, ℤ, rules, subst, sym, ◌∙◌, to_z-of_z, w32, arith}
use Rattle.vimalorua_c.specs.SeatCalls.{IsDrawTried}
use Rattle.vimalorua_c.proofs.SeatLemmas.{nothing_drawn, picture_drawn, refused_draw}
use Rattle.vimalorua_c.proofs.seat_drawing.drawn_by.Goals as goal

pub returns-then-font_count-eq0 : goal.returns-then-font_count-eq0
returns-then-font_count-eq0 c =
    let none : length c.args.seat.fonts ≡ 0 = omega (arith, c.font_count.ensures, c.if-font_count-eq0.true) in
    nothing_drawn c.args.at c.args.frame.now c.args.out.now c.args.entries.now c.args.seat c.requires.untold none

pub returns-in-Ok : goal.returns-in-Ok
returns-in-Ok c =
    let some : 0 < length c.args.seat.fonts = omega (arith, c.font_count.ensures, c.if-font_count-eq0.false) in
    let shows = rw (c.in-Ok.is, to_z-of_z c.ranges.at) at c.draw_in-seat.ensures.shown in
    let is = c.copy_from_slice.ensures.after ∙ c.pixels.ensures.bytes in
    picture_drawn c.args.at c.args.frame.now c.args.out.now c.copy_from_slice.new.self c.in-Ok.drawn c.args.seat c.draw_in-seat.result.0 some shows is c.draw_in-seat.ensures.same

pub returns-in-Err : goal.returns-in-Err
returns-in-Err c =
    let some : 0 < length c.args.seat.fonts = omega (arith, c.font_count.ensures, c.if-font_count-eq0.false) in
    let fits : FitsSigned w32 c.look_status.result = search rules in
    let refused = rw c.in-Err.is at c.draw_in-seat.ensures.refused in
    let new = c.draw_in-seat.result.0 in
    subst (λ (s : ℤ). IsDrawTried c.args.at c.args.frame.now c.args.out.now c.args.out.now c.args.entries.now s c.args.seat new) (sym (to_z-of_z fits ∙ c.look_status.ensures))
    (refused_draw c.args.at c.args.frame.now c.args.out.now c.args.entries.now c.in-Err.refusal c.args.seat new c.requires.untold some refused c.draw_in-seat.ensures.same)
