use Rattle.std.proofs.Common.{[], ◌-◌, ◌≤◌}
use Rattle.mask_caches.specs.Balance.{AreLater}
use Rattle.renderer.specs.Holding.{HoldsTheSame}
use Rattle.renderer.specs.Passes.{IsPassOfRenderer}
use Rattle.turn_cell.specs.Passes.{Follows}
use Rattle.play_workers.specs.Asks.{AreImagesAsked}
use Rattle.play_workers.specs.Parts.{painted_bytes}
use Rattle.play_workers.specs.Stages.{play_on}
use Rattle.play_workers.proofs.painter.paint_part.Given as goal

abbrev pub invariant-loop-place : goal.invariant-loop-place
invariant-loop-place g l = record {
  of : IsPassOfRenderer l.stage.renderer l.pass;
  track : Follows l.fn.pass.track l.pass.track [];
  later : AreLater l.fn.pass.caches l.pass.caches;
  holds : HoldsTheSame l.stage.renderer l.fn.pass l.pass;
  last : l.place - l.first ≤ l.end - l.first;
  images : AreImagesAsked (play_on l.stage) l.stage.renderer l.fn.pass l.pass l.first (l.place - l.first) (painted_bytes l.images);
}
