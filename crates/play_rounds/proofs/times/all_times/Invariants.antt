use Rattle.std.proofs.Common.{◌+◌, ◌*◌, ◌≤◌}
use Rattle.track_history.specs.Calls.{history_of}
use Rattle.play_workers.specs.Asks.{masks_seen}
use Rattle.play_rounds.specs.Passes.{IsAllJoined}
use Rattle.play_workers.specs.Limits.{max_rounds}
use Rattle.play_workers.specs.Stages.{play_on}
use Rattle.play_rounds.specs.Limits.{max_drawn}
use Rattle.play_rounds.specs.Outputs.{AreImagesWritten}
use Rattle.play_rounds.specs.Times.{HavePlayed}
use Rattle.play_rounds.proofs.times.all_times.Given as goal

abbrev pub invariant-loop-time : goal.invariant-loop-time
invariant-loop-time g l = record {
  home : IsAllJoined l.stage.renderer l.first;
  drawn : l.first.track.next ≤ 1 + l.time * (2 * max_drawn);
  few : l.played.repeated ≤ l.time * (2 * (max_rounds * 4294967295));
  so_far : HavePlayed (play_on l.stage) l.time (history_of l.first.track.seen) l.played
      (λ images. AreImagesWritten images (g.F.Sink.state l.initial.frames) (g.F.Sink.state l.frames) (masks_seen l.stage.renderer l.fn.first) (masks_seen l.stage.renderer l.first));
}
