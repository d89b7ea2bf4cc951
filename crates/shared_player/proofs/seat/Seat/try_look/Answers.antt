use Rattle.std.proofs.Common.{ap, subst, sym, ◌∙◌}
use Rattle.std.proofs.Math.Facts.{to_z-of_z}
use Rattle.std.specs.Arc.{arc_value}
use Rattle.track_history.specs.Calls.{IsTriedLook, TrackView}
use Rattle.shared_player.specs.Seats.{IsSeat, SharedSeatView}
use Rattle.shared_player.proofs.SeatLemmas.{looked_seat}
use Rattle.shared_player.proofs.seat.Seat.try_look.Goals as goal

pub of-requires : goal.of-requires
of-requires c =
    let s = c.self.inside in
    let is = subst (λ (p : TrackView). IsSeat s.player (arc_value s.track) p s.first) (sym c.into_inner-pass.ensures) c.self.invariant in
    let looked = rw (to_z-of_z c.ranges.t) at c.try_look-pass.ensures in
    looked_seat s.player (arc_value s.track) c.into_inner-pass.result c.try_look-pass.result.0 s.first is c.args.t c.try_look-pass.result.1 looked

pub returns-clause-look : goal.returns-clause-look
returns-clause-look c =
    let seen = c.into_inner-pass.ensures ∙ ap (λ (s : SharedSeatView). s.track) c.self.view_is in
    let after = ap (λ (s : SharedSeatView). s.track) c.of.ensures in
    let looked = rw (to_z-of_z c.ranges.t) at c.try_look-pass.ensures in
    subst (λ (p : TrackView). IsTriedLook p c.args.t c.of.result.track c.try_look-pass.result.1) seen
    (subst (λ (q : TrackView). IsTriedLook c.into_inner-pass.result c.args.t q c.try_look-pass.result.1) (sym after) looked)
