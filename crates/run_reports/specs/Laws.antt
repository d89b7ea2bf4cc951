-- Public: what is told otherwise is what is told by default.
use Rattle.std.specs.Prelude.{ℕ, List, flat_map}
use Rattle.ass_events.specs.ScriptEvents.{line_events}
use Rattle.ass_script.specs.Scripts.{ScriptValue}
use Rattle.bdf_font.specs.Fonts.{FontValue}
use Rattle.frame_rate.specs.declared.instants.Instants.{Instants}
use Rattle.frame_view.specs.declared.view.FrameView.{FrameView}
use Rattle.mask_keys.specs.declared.plans.Draw.{Draw}
use Rattle.run_words.specs.declared.report_words.ReportForm.TheVariants.{Text}
use Rattle.single_run.specs.ChangeReports.{AreChangeLines}
use Rattle.run_reports.specs.ChangeStreams.{AreLinesUpTo, changes_view}

-- The lines of words on what changes, one behind another, are the report on it by default.
abbrev pub LinesAreReport : Type 0
LinesAreReport =
    (script : ScriptValue) (fonts : List FontValue) (instants : Instants) (view : FrameView) (place : ℕ) (last : List Draw) (lines : List (List ℕ))
    → AreLinesUpTo (changes_view Text script fonts instants view) place last lines
    → AreChangeLines script fonts (line_events script) instants view place last (flat_map (λ line. line) lines)
