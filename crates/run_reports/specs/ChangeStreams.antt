-- Public: the report on what changes, put line by line (docs/PROGRAM.md).
use Rattle.std.specs.Prelude.{◌≡◌, ◌⊎◌, ℕ, ◌+◌, ◌<◌, pos, List, [], ◌∷◌, ◌++◌, codes, Option, Some, None}
use Rattle.json.specs.Token.{Token, key, null}
use Rattle.json_lines.specs.Members.{json_line, number_array, number_member, object_of}
use Rattle.ass_num.specs.declared.size.Size.{Size}
use Rattle.ass_io.specs.Sinks.{IsPutAnswered, SinkState}
use Rattle.ass_io.specs.declared.sink.Put.{Put}
use Rattle.ass_io.specs.declared.sink.Put.TheVariants as put
use Rattle.ass_events.specs.ScriptEvents.{line_events}
use Rattle.ass_script.specs.Scripts.{ScriptValue}
use Rattle.bdf_font.specs.Fonts.{FontValue}
use Rattle.frame_change.specs.declared.pixels.Changed.{Changed}
use Rattle.frame_rate.specs.Instants.{rated_instant}
use Rattle.frame_rate.specs.declared.instants.Instants.{Instants}
use Rattle.frame_view.specs.declared.view.FrameView.{FrameView}
use Rattle.mask_keys.specs.declared.plans.Draw.{Draw}
use Rattle.picture_plan.specs.Pictures.{AreDraws}
use Rattle.play_rounds.specs.Outputs.{AreWritten}
use Rattle.run_status.specs.declared.ending.Ending.{Ending}
use Rattle.run_status.specs.declared.ending.Ending.TheVariants.{As}
use Rattle.run_status.specs.declared.status.Status.TheVariants.{Done, WriteFault}
use Rattle.run_status.specs.declared.status.Which.TheVariants.{Report}
use Rattle.run_words.specs.declared.report_words.ReportForm.{ReportForm}
use Rattle.run_words.specs.declared.report_words.ReportForm.TheVariants.{Text, Json, Silent}
use Rattle.single_run.specs.ChangeReports.{IsChangeFound}
use Rattle.single_run.specs.Lines.{change_line, kind_number}
use Rattle.single_run.specs.declared.screen.ScreenChange.{ScreenChange}
use Rattle.run_reports.specs.Telling.{IsMemorySaid}

-- the box of the pixels that differ
abbrev pub box_member : Option Changed → List Token
box_member None = key (codes "box") ∷ null ∷ []
box_member (Some box) = key (codes "box") ∷ number_array (box.x1 ∷ box.y1 ∷ box.x2 ∷ box.y2 ∷ [])

abbrev pub change_members : ℕ → ScreenChange → List Token
change_members t change =
    number_member (codes "t") t ++ number_member (codes "change") (kind_number change.kind) ++ box_member change.part

-- the line on the instant t in a form
abbrev pub change_in : ReportForm → ℕ → ScreenChange → List ℕ
change_in Text t change = change_line t change.kind change.part
change_in Json t change = json_line (object_of (change_members t change))
change_in Silent t change = []

-- what is compared, and in what form that is told
pub record ChangesView : Type 0 where
  pub form : ReportForm
  pub script : ScriptValue
  pub fonts : List FontValue
  pub instants : Instants
  pub view : FrameView

abbrev pub changes_view : ReportForm → ScriptValue → List FontValue → Instants → FrameView → ChangesView
changes_view form script fonts instants view = record { form = form; script = script; fonts = fonts; instants = instants; view = view }

-- These are the draws of the picture that the script's events show at the instant at a place.
abbrev pub AreDrawsCompared : ChangesView → ℕ → List Draw → Type 0
AreDrawsCompared changes place draws = AreDraws changes.script changes.fonts (line_events changes.script) (pos (rated_instant changes.instants place)) changes.view draws

-- The line on an instant tells how the draws there differ from those before, and where their pictures do.
abbrev pub IsChangeLineIn : ReportForm → List FontValue → Size → ℕ → List Draw → List Draw → List ℕ → Type 0
IsChangeLineIn form fonts size t before now line = (change : ScreenChange) × IsChangeFound fonts size before now change × (line ≡ change_in form t change)

abbrev pub IsLineAt : ChangesView → ℕ → List Draw → List Draw → List ℕ → Type 0
IsLineAt changes place before now line =
    IsChangeLineIn changes.form changes.fonts changes.view.size (rated_instant changes.instants place) before now line

-- The line on the instant at a place was put, with this answer, or memory ran out for it.
abbrev pub IsPlacePut : ChangesView → ℕ → List Draw → List Draw → Put → SinkState → SinkState → Type 0
IsPlacePut changes place before now answer old new =
    ((answer ≡ put.OutOfMemory) × (new ≡ old))
    ⊎ ((line : List ℕ) × AreDrawsCompared changes place now × IsLineAt changes place before now line × IsPutAnswered line answer old new)

-- These are the lines on the first instants, the last of which has these draws. The first of them is compared with no draws, which leave the frame black.
pub data AreLinesUpTo (changes : ChangesView) : ℕ → List Draw → List (List ℕ) → Type 0 where
  NoneYet : AreLinesUpTo changes 0 [] []
  OneMore : (place : ℕ) (before now : List Draw) (lines : List (List ℕ)) (line : List ℕ)
      → AreLinesUpTo changes place before lines → AreDrawsCompared changes place now → IsLineAt changes place before now line
      → AreLinesUpTo changes (place + 1) now (lines ++ line ∷ [])

-- The report was asked to put these lines, one after another, and got them whole. No file was made by that.
abbrev pub GotLines : List (List ℕ) → SinkState → SinkState → Type 0
GotLines lines old new = AreWritten lines old new × (new.made ≡ old.made)

-- The report got the lines on the first instants whole.
pub record GotFirstLines (changes : ChangesView) (place : ℕ) (old new : SinkState) : Type 0 where
  pub last : List Draw
  pub lines : List (List ℕ)
  pub are : AreLinesUpTo changes place last lines
  pub got : GotLines lines old new

-- The report got the lines on the first instants whole, and answered so when it was asked to put the next one.
pub record IsNextAnswered (changes : ChangesView) (place : ℕ) (answer : Put) (old new : SinkState) : Type 0 where
  pub now : List Draw
  pub lines : List (List ℕ)
  pub line : List ℕ
  pub middle : SinkState
  pub are : AreLinesUpTo changes (place + 1) now (lines ++ line ∷ [])
  pub got : GotLines lines old middle
  pub answered : IsPutAnswered line answer middle new

-- How the lines were put: all; up to one that failed; none, or up to one for which memory ran out, or for whose put it did.
abbrev pub AreLinesPut : ChangesView → Put → SinkState → SinkState → Type 0
AreLinesPut changes put.Done old new = GotFirstLines changes changes.instants.count old new
AreLinesPut changes put.Failed old new = (place : ℕ) × (place < changes.instants.count) × IsNextAnswered changes place put.Failed old new
AreLinesPut changes put.OutOfMemory old new =
    (new ≡ old)
    ⊎ ((place : ℕ) × (place < changes.instants.count) × GotFirstLines changes place old new)
    ⊎ ((place : ℕ) × (place < changes.instants.count) × IsNextAnswered changes place put.OutOfMemory old new)

-- How the run ends after that. Where memory ran out this is said behind the lines.
abbrev pub IsStreamEnded : ReportForm → Put → SinkState → SinkState → Ending → Type 0
IsStreamEnded form put.Done old new ending = (new ≡ old) × (ending ≡ As Done)
IsStreamEnded form put.Failed old new ending = (new ≡ old) × (ending ≡ As (WriteFault Report))
IsStreamEnded form put.OutOfMemory old new ending = IsMemorySaid form old new ending

-- The report on what changes was put line by line.
pub record IsStreamed (changes : ChangesView) (old new : SinkState) (ending : Ending) : Type 0 where
  pub answer : Put
  pub middle : SinkState
  pub lines : AreLinesPut changes answer old middle
  pub ended : IsStreamEnded changes.form answer middle new ending

abbrev pub AreToldIn : ReportForm → ChangesView → SinkState → SinkState → Ending → Type 0
AreToldIn Text changes old new ending = IsStreamed changes old new ending
AreToldIn Json changes old new ending = IsStreamed changes old new ending
AreToldIn Silent changes old new ending = (new ≡ old) × (ending ≡ As Done)

-- What changes was told. In the silent form nothing is compared, and nothing is put.
abbrev pub AreChangesTold : ChangesView → SinkState → SinkState → Ending → Type 0
AreChangesTold changes old new ending = AreToldIn changes.form changes old new ending
