use Rattle.std.proofs.Common.{◌≡◌, map}
use Rattle.std.specs.Arc.{arc_value}
use Rattle.std.specs.Prelude.{string_bytes}
use Rattle.mask_keys.specs.Pictures.{picture}
use Rattle.single_run.specs.ChangeReports.{AreChangeLines}
use Rattle.single_run.proofs.change_report.lines_of.Given as goal

abbrev pub invariant-loop-place : goal.invariant-loop-place
invariant-loop-place l = record {
  lines : AreChangeLines l.setting.script l.setting.fonts (map arc_value l.events) l.instants l.setting.frame l.place l.screen.plan.draws (string_bytes l.report);
  screen : l.screen.canvas ≡ picture l.setting.fonts l.setting.frame.size l.screen.plan.draws;
  fonts : l.local.fonts ≡ l.setting.fonts;
}
