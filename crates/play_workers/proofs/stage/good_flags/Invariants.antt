use Rattle.std.proofs.Common.{◌≡◌, map}
use Rattle.std.specs.List.{range_with_len}
use Rattle.std.specs.Result.{is_ok}
use Rattle.ass_events.specs.Events.{event_of_line}
use Rattle.play_workers.proofs.stage.good_flags.Given as goal

abbrev pub invariant-loop-i : goal.invariant-loop-i
invariant-loop-i l = l.good ≡ map (λ j. is_ok (event_of_line l.script j)) (range_with_len 0 l.i)
