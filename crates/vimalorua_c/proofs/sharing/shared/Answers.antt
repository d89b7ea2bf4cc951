use Rattle.std.proofs.Common.{FitsSigned, Option, Some, None, ℤ, pos, rules, subst, sym, ◌∙◌, to_z-of_z, w32}
use Rattle.player.specs.Players.{PlayerView}
use Rattle.vimalorua_c.specs.SeatCalls.{IsPlayerShared}
use Rattle.vimalorua_c.specs.Statuses.{share_status}
use Rattle.vimalorua_c.proofs.SeatLemmas.{shared_told, unshared_told}
use Rattle.vimalorua_c.proofs.sharing.shared.Goals as goal

pub returns-in-Ok-clause-told : goal.returns-in-Ok-clause-told
returns-in-Ok-clause-told c =
    subst (λ (p : Option PlayerView). IsPlayerShared (pos 0) p None) (sym c.in-Some.is) (shared_told c.in-Some.player c.in-Ok.ensures.seat.0)

pub returns-in-Err-clause-told : goal.returns-in-Err-clause-told
returns-in-Err-clause-told c =
    let player = c.in-Some.player in
    let back = c.in-Err.back.0 in
    let refusal = c.in-Err.back.1 in
    let fits : FitsSigned w32 c.share_status.result = search rules in
    subst (λ (s : ℤ). IsPlayerShared s c.args.player (Some back)) (sym (to_z-of_z fits ∙ c.share_status.ensures))
    (subst (λ (p : Option PlayerView). IsPlayerShared (share_status refusal) p (Some back)) (sym c.in-Some.is)
    (subst (λ (q : PlayerView). IsPlayerShared (share_status refusal) (Some player) (Some q)) (sym c.in-Err.ensures.player) (unshared_told player refusal c.in-Err.ensures.refused)))
