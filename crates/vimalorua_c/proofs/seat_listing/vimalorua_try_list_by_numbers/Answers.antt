use Rattle.std.proofs.Common.{FitsSigned, inr, refl, rules, to_z-of_z, w32}
use Rattle.vimalorua_c.proofs.seat_listing.vimalorua_try_list_by_numbers.Goals as goal

pub returns : goal.returns
returns c =
    let fits : FitsSigned w32 c.list_by_seat.result = search rules in
    let seen = rw (to_z-of_z c.ranges.at) at c.if-not-may_be_seen.ensures.0 refl in
    rw (to_z-of_z fits) (inr (λ bad. bad seen, rw (c.view_numbered.ensures, to_z-of_z c.ranges.at) at c.list_by_seat.ensures))
