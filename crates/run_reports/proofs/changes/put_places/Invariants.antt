use Rattle.std.proofs.Common.{◌≡◌, ℕ, List}
use Rattle.mask_keys.specs.Pictures.{picture}
use Rattle.run_reports.specs.ChangeStreams.{AreLinesUpTo, GotLines, changes_view}
use Rattle.run_reports.proofs.changes.put_places.Given as goal

abbrev pub invariant-loop-place : goal.invariant-loop-place
invariant-loop-place g l = record {
  put : (lines : List (List ℕ)) × AreLinesUpTo (changes_view l.form l.setting.script l.setting.fonts l.instants l.setting.frame) l.place l.screen.plan.draws lines
      × GotLines lines (g.R.Sink.state l.fn.report) (g.R.Sink.state l.report);
  screen : l.screen.canvas ≡ picture l.setting.fonts l.setting.frame.size l.screen.plan.draws;
  fonts : l.local.fonts ≡ l.setting.fonts;
}
