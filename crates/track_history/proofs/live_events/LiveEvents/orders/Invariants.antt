use Rattle.std.proofs.Common.{◌≡◌, map, take}
use Rattle.std.specs.Arc.{arc_value}
use Rattle.track_history.specs.Answers.{read_orders}
use Rattle.track_history.proofs.live_events.LiveEvents.orders.Given as goal

abbrev pub invariant-loop-event : goal.invariant-loop-event
invariant-loop-event l = l.orders.items ≡ read_orders (map arc_value (take l.event-index l.self.events.items))
