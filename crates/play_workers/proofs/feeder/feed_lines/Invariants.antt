use Rattle.std.proofs.Common.{◌≡◌, ◌≤◌, take}
use Rattle.std.specs.Arc.{arc_value}
use Rattle.renderer.specs.Passes.{IsPassOfRenderer}
use Rattle.play_model.specs.Plays.{events_at}
use Rattle.play_workers.specs.Offers.{AreOffered, HasGiven}
use Rattle.play_workers.proofs.feeder.feed_lines.Given as goal

abbrev pub invariant-loop-line : goal.invariant-loop-line
invariant-loop-line g l = record {
  of : IsPassOfRenderer l.stage.renderer l.pass;
  caches : l.pass.caches ≡ l.fn.pass.caches;
  few : l.repeated ≤ l.line-index;
  fed : HasGiven l.fn.pass.track l.pass.track
      (λ given. AreOffered l.fn.pass.track l.pass.track (events_at (arc_value l.stage.script) (take l.line-index l.lines)) given l.repeated);
}
