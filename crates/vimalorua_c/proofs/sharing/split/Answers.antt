use Rattle.std.proofs.Common.{FitsSigned, ℤ, rules, subst, sym, ◌∙◌, to_z-of_z, w32}
use Rattle.shared_player.specs.Seats.{SharedSeatView}
use Rattle.vimalorua_c.specs.SeatCalls.{IsSeatSplit}
use Rattle.vimalorua_c.specs.Statuses.{split_status}
use Rattle.vimalorua_c.proofs.SeatLemmas.{split_told, unsplit_told}
use Rattle.vimalorua_c.proofs.sharing.split.Goals as goal

pub returns-in-Ok-clause-told : goal.returns-in-Ok-clause-told
returns-in-Ok-clause-told c =
    let room = rw c.in-Ok.is at c.split-seat.ensures.room in
    let first = rw c.in-Ok.is at c.split-seat.ensures.first in
    split_told c.args.seat c.split-seat.result.0 room.0 first

pub returns-in-Err-clause-told : goal.returns-in-Err-clause-told
returns-in-Err-clause-told c =
    let seat = c.args.seat in
    let fits : FitsSigned w32 c.split_status.result = search rules in
    let same = rw c.in-Err.is at c.split-seat.ensures.same in
    let refused = rw c.in-Err.is at c.split-seat.ensures.refused in
    subst (λ (s : ℤ). IsSeatSplit s seat c.split-seat.result.0) (sym (to_z-of_z fits ∙ c.split_status.ensures))
    (subst (λ (v : SharedSeatView). IsSeatSplit (split_status c.in-Err.refusal) seat v) (sym same) (unsplit_told seat c.in-Err.refusal refused))
