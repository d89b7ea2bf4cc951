use Rattle.std.proofs.Common.{ap, subst, sym, ◌∙◌}
use Rattle.std.specs.Arc.{arc_value}
use Rattle.player.specs.Players.{PlayerView}
use Rattle.track_history.specs.Calls.{TrackView}
use Rattle.turn_cell.specs.Passes.{CellView, IsOf}
use Rattle.shared_player.specs.Seats.{SharedSeatView}
use Rattle.shared_player.proofs.SeatLemmas.{first_seat_is, new_seat_is}
use Rattle.shared_player.proofs.seat.Seat.split_into.Goals as goal

pub of-new-requires : goal.of-new-requires
of-new-requires c =
    let of = subst (λ (p : TrackView). IsOf (arc_value c.self.inside.track) p) (sym c.into_inner.ensures) c.self.invariant.of_cell in
    let cell = ap (λ (s : SharedSeatView). s.cell) c.self.view_is ∙ sym c.requires.track in
    new_seat_is c.args.player (arc_value c.args.track) c.into_inner.result c.in-Ok.new (ap (λ (p : PlayerView). p.track) c.requires.player)
    (subst (λ (k : CellView (Unit {0})). IsOf k c.into_inner.result) cell of) c.in-Ok.ensures.passes.1

pub of-requires : goal.of-requires
of-requires c =
    let s = c.self.inside in
    let of = subst (λ (p : TrackView). IsOf (arc_value s.track) p) (sym c.into_inner.ensures) c.self.invariant.of_cell in
    let first = c.self.invariant.is_first (ap (λ (v : SharedSeatView). v.first) c.self.view_is ∙ c.requires.first) in
    first_seat_is s.player (arc_value s.track) c.into_inner.result c.in-Ok.pass c.self.invariant.unfed of (ap (λ (p : TrackView). p.number) c.into_inner.ensures ∙ first) c.in-Ok.ensures.passes.0
