use Rattle.std.proofs.Common.{◌≡◌, ◌++◌, drop}
use Rattle.std.specs.Prelude.{string_bytes}
use Rattle.single_run.specs.CheckReports.{font_reports}
use Rattle.single_run.proofs.check_lines.add_fonts.Given as goal

abbrev pub invariant-loop-i : goal.invariant-loop-i
invariant-loop-i l = string_bytes l.report ++ font_reports l.i (drop l.i l.fonts) ≡ string_bytes l.fn.report ++ font_reports 0 l.fonts
