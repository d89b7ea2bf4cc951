use Rattle.std.proofs.Common.{of_z, subst, sym, to_z, w64}
use Rattle.std.specs.Arc.{arc_value}
use Rattle.track_history.specs.Calls.{TrackView}
use Rattle.shared_player.specs.Seats.{IsSeat}
use Rattle.shared_player.proofs.SeatLemmas.{fed_seat}
use Rattle.shared_player.proofs.seat.Seat.try_feed.Goals as goal

pub of-requires : goal.of-requires
of-requires c =
    let s = c.self.inside in
    let is = subst (λ (p : TrackView). IsSeat s.player (arc_value s.track) p s.first) (sym c.into_inner-pass.ensures) c.self.invariant in
    let tried = c.try_feed-pass in
    fed_seat s.player (arc_value s.track) c.into_inner-pass.result tried.result.0 s.first is c.args.chunk.now (to_z w64 (of_z w64 c.args.start)) (to_z w64 (of_z w64 c.args.duration)) tried.result.1
    tried.ensures.fed tried.ensures.out
