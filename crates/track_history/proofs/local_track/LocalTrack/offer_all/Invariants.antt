use Rattle.std.proofs.Common.{◌≡◌, map, take}
use Rattle.std.specs.Arc.{arc_value}
use Rattle.std.specs.List.{fold}
use Rattle.track_history.specs.LocalFeeding.{with_offer}
use Rattle.track_history.proofs.local_track.LocalTrack.offer_all.Given as goal

abbrev pub invariant-loop-event : goal.invariant-loop-event
invariant-loop-event l = l.self ≡ fold with_offer l.fn.self (map arc_value (take l.event-index l.events))
