-- From lines that were put to the report by default.
use Rattle.std.proofs.Common.{◌≡◌, ℕ, ◌∙◌, ◌+◌, List, [], ◌∷◌, ◌++◌, ap, append-nil, subst, sym}
use Rattle.ass_events.specs.ScriptEvents.{line_events}
use Rattle.ass_script.specs.Scripts.{ScriptValue}
use Rattle.bdf_font.specs.Fonts.{FontValue}
use Rattle.frame_rate.specs.Instants.{rated_instant}
use Rattle.frame_rate.specs.declared.instants.Instants.{Instants}
use Rattle.frame_view.specs.declared.view.FrameView.{FrameView}
use Rattle.mask_keys.specs.declared.plans.Draw.{Draw}
use Rattle.play_rounds.proofs.Puts.{joined, joined-append}
use Rattle.run_words.specs.declared.report_words.ReportForm.TheVariants.{Text}
use Rattle.single_run.proofs.LineLemmas.{found_line}
use Rattle.single_run.specs.ChangeReports.{AreChangeLines, NextLine, NoLine}
use Rattle.run_reports.specs.ChangeStreams.{AreLinesUpTo, NoneYet, OneMore, changes_view}

joined_more : (lines : List (List ℕ)) (line : List ℕ) → joined (lines ++ line ∷ []) ≡ joined lines ++ line
joined_more lines line = joined-append lines (line ∷ []) ∙ ap (λ z. joined lines ++ z) (append-nil line)

pub are_report : (script : ScriptValue) (fonts : List FontValue) (instants : Instants) (view : FrameView) (place : ℕ) (last : List Draw) (lines : List (List ℕ)) →
    AreLinesUpTo (changes_view Text script fonts instants view) place last lines → AreChangeLines script fonts (line_events script) instants view place last (joined lines)
are_report script fonts instants view _ _ _ NoneYet = NoLine
are_report script fonts instants view _ _ _ (OneMore place before now lines line are draws (change, found, is)) =
    subst (AreChangeLines script fonts (line_events script) instants view (place + 1) now) (sym (joined_more lines line))
    (NextLine place before now (joined lines) line (are_report script fonts instants view place before lines are) draws
    (found_line fonts view.size (rated_instant instants place) before now change line found is))
