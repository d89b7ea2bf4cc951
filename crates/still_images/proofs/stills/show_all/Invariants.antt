use Rattle.std.proofs.Common.{◌≡◌}
use Rattle.still_images.proofs.ReelLemmas.{IsShownSoFar}
use Rattle.still_images.specs.Reels.{IsReelFit}
use Rattle.still_images.specs.Stills.{stills_view}
use Rattle.still_images.proofs.stills.show_all.Given as goal

abbrev pub invariant-loop-place : goal.invariant-loop-place
invariant-loop-place g l = record {
  shown : IsShownSoFar (stills_view l.job l.setting.script l.setting.fonts) l.place l.reel (g.F.Sink.state l.initial.frames) (g.F.Sink.state l.frames);
  fit : IsReelFit l.job l.reel;
  fonts : l.local.fonts ≡ l.setting.fonts;
}
