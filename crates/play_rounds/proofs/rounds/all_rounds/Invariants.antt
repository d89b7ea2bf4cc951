use Rattle.std.proofs.Common.{◌≡◌, ◌+◌, ◌*◌, ◌≤◌}
use Rattle.std.specs.List.{All}
use Rattle.track_history.specs.Calls.{history_of}
use Rattle.play_workers.specs.Asks.{masks_seen}
use Rattle.play_rounds.specs.Passes.{IsAllJoined}
use Rattle.play_rounds.specs.Rounds.{worker_roles}
use Rattle.play_workers.specs.Parts.{HasNoPass}
use Rattle.play_workers.specs.Stages.{play_on}
use Rattle.play_rounds.specs.Limits.{max_crew}
use Rattle.play_rounds.specs.Outputs.{AreImagesWritten}
use Rattle.play_rounds.specs.Playing.{PlaysOn}
use Rattle.play_rounds.proofs.rounds.all_rounds.Given as goal

abbrev pub invariant-loop-round : goal.invariant-loop-round
invariant-loop-round g l = record {
  home : IsAllJoined l.stage.renderer l.first;
  drawn : l.first.track.next ≤ l.fn.first.track.next + l.round * max_crew;
  idle : All HasNoPass l.workers;
  crew : worker_roles l.workers ≡ worker_roles l.initial.workers;
  few : l.repeated ≤ l.round * 4294967295;
  played : PlaysOn (play_on l.stage) (worker_roles l.initial.workers) 0 l.round (history_of l.fn.first.track.seen) (history_of l.first.track.seen) l.repeated
      (λ next. AreImagesWritten next (g.F.Sink.state l.initial.frames) (g.F.Sink.state l.frames) (masks_seen l.stage.renderer l.fn.first) (masks_seen l.stage.renderer l.first));
}
