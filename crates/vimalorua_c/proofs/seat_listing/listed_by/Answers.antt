use Rattle.std.proofs.Common.{◌≡◌, ◌<◌, FitsSigned, length, ℤ, pos, rules, subst, sym, ◌∙◌, to_z-of_z, w32, arith}
use Rattle.player.specs.Players.{mask_bytes}
use Rattle.vimalorua_c.specs.SeatCalls.{IsListTried}
use Rattle.vimalorua_c.proofs.SeatLemmas.{images_listed, nothing_listed, refused_list}
use Rattle.vimalorua_c.proofs.seat_listing.listed_by.Goals as goal

pub returns-then-font_count-eq0 : goal.returns-then-font_count-eq0
returns-then-font_count-eq0 c =
    let none : length c.args.seat.fonts ≡ 0 = omega (arith, c.font_count.ensures, c.if-font_count-eq0.true) in
    nothing_listed c.args.at c.args.frame.now c.args.change.now c.args.entries.now c.args.seat c.requires.untold none

pub returns-in-Ok : goal.returns-in-Ok
returns-in-Ok c =
    let some : 0 < length c.args.seat.fonts = omega (arith, c.font_count.ensures, c.if-font_count-eq0.false) in
    let fits : FitsSigned w32 c.change_number.result = search rules in
    let lists = rw (c.in-Ok.is, to_z-of_z c.ranges.at) at c.images_in-seat.ensures.listed in
    let new = c.images_in-seat.result.0 in
    subst
    (λ (n : ℤ). IsListTried c.args.at c.args.frame.now (pos 0) c.args.change.now n (length new.images) (mask_bytes new.images) c.in-Ok.listed.entries c.args.seat new)
    (sym (to_z-of_z fits ∙ c.change_number.ensures))
    (images_listed c.args.at c.args.frame.now c.args.change.now c.in-Ok.listed c.args.seat new some lists c.images_in-seat.ensures.else_same)

pub returns-in-Err : goal.returns-in-Err
returns-in-Err c =
    let some : 0 < length c.args.seat.fonts = omega (arith, c.font_count.ensures, c.if-font_count-eq0.false) in
    let fits : FitsSigned w32 c.look_status.result = search rules in
    let refused = rw c.in-Err.is at c.images_in-seat.ensures.refused in
    let images = rw c.in-Err.is at c.images_in-seat.ensures.images in
    let new = c.images_in-seat.result.0 in
    subst
    (λ (s : ℤ). IsListTried c.args.at c.args.frame.now s c.args.change.now c.args.change.now (length new.images) (mask_bytes new.images) c.args.entries.now c.args.seat new)
    (sym (to_z-of_z fits ∙ c.look_status.ensures))
    (refused_list c.args.at c.args.frame.now c.args.change.now c.args.entries.now c.in-Err.refusal c.args.seat new c.requires.untold some refused c.images_in-seat.ensures.else_same images)
