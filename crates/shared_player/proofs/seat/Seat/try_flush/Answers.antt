use Rattle.std.proofs.Common.{subst, sym}
use Rattle.std.specs.Arc.{arc_value}
use Rattle.track_history.specs.Calls.{TrackView}
use Rattle.shared_player.specs.Seats.{IsSeat}
use Rattle.shared_player.proofs.SeatLemmas.{flushed_seat}
use Rattle.shared_player.proofs.seat.Seat.try_flush.Goals as goal

pub of-requires : goal.of-requires
of-requires c =
    let s = c.self.inside in
    let is = subst (λ (p : TrackView). IsSeat s.player (arc_value s.track) p s.first) (sym c.into_inner-pass.ensures) c.self.invariant in
    let tried = c.try_flush-pass in
    flushed_seat s.player (arc_value s.track) c.into_inner-pass.result tried.result.0 s.first is tried.result.1 tried.ensures.flushed tried.ensures.out
