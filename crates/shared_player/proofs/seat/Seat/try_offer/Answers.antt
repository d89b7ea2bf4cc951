use Rattle.std.proofs.Common.{sym, subst}
use Rattle.std.specs.Arc.{arc_value}
use Rattle.track_history.specs.Calls.{TrackView}
use Rattle.shared_player.specs.Seats.{IsSeat}
use Rattle.shared_player.proofs.SeatLemmas.{offered_seat}
use Rattle.shared_player.proofs.seat.Seat.try_offer.Goals as goal

pub of-requires : goal.of-requires
of-requires c =
    let s = c.self.inside in
    let is = subst (λ (p : TrackView). IsSeat s.player (arc_value s.track) p s.first) (sym c.into_inner-pass.ensures) c.self.invariant in
    let tried = c.try_offer-pass in
    offered_seat s.player (arc_value s.track) c.into_inner-pass.result tried.result.0 s.first is (arc_value c.args.event.now) tried.result.1 tried.ensures.fed tried.ensures.out
