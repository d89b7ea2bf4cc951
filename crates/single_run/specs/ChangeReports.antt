-- Public: the report on what changes from picture to picture.
use Rattle.std.specs.Prelude.{◌≡◌, ℕ, ◌+◌, pos, List, [], ◌++◌, Option, Some, None}
use Rattle.ass_num.specs.declared.size.Size.{Size}
use Rattle.ass_events.specs.declared.event.Event.{Event}
use Rattle.ass_script.specs.Scripts.{ScriptValue}
use Rattle.bdf_font.specs.Fonts.{FontValue}
use Rattle.frame_change.specs.Changes.{IsChange, IsLeastChanged}
use Rattle.frame_change.specs.declared.pixels.Changed.{Changed}
use Rattle.mask_keys.specs.declared.plans.Draw.{Draw}
use Rattle.mask_keys.specs.declared.plans.Plan.{Plan}
use Rattle.mask_keys.specs.Pictures.{picture}
use Rattle.frame_view.specs.declared.view.FrameView.{FrameView}
use Rattle.picture_plan.specs.Pictures.{AreDraws}
use Rattle.ass_events.specs.ScriptEvents.{line_events}
use Rattle.frame_rate.specs.Instants.{rated_instant}
use Rattle.single_run.specs.Lines.{change_line}
use Rattle.single_run.specs.declared.screen.ScreenChange.{ScreenChange}
use Rattle.frame_rate.specs.declared.instants.Instants.{Instants}

abbrev pub plan_of : List Draw → Plan
plan_of draws = record { draws = draws }

-- The least box of the pixels at which two pictures differ: there is none exactly where they are equal.
abbrev pub IsChangedBox : Size → List ℕ → List ℕ → Option Changed → Type 0
IsChangedBox size a b None = a ≡ b
IsChangedBox size a b (Some box) = IsLeastChanged size a b box

-- How draws differ from those before, and where their pictures do.
pub record IsChangeFound (fonts : List FontValue) (size : Size) (before now : List Draw) (change : ScreenChange) : Type 0 where
  pub is_change : IsChange change.kind (plan_of before) (plan_of now)
  pub is_box : IsChangedBox size (picture fonts size before).bytes (picture fonts size now).bytes change.part

-- The line on the instant t tells what changed.
pub record IsChangeLine (fonts : List FontValue) (size : Size) (t : ℕ) (before now : List Draw) (line : List ℕ) : Type 0 where
  pub change : ScreenChange
  pub found : IsChangeFound fonts size before now change
  pub value : line ≡ change_line t change.kind change.part

-- The text is the lines on the first instants, the last of which has these draws. The first of them is compared with no draws, which leave the frame black.
pub data AreChangeLines (script : ScriptValue) (fonts : List FontValue) (events : List Event) (instants : Instants) (view : FrameView) : ℕ → List Draw → List ℕ → Type 0 where
  NoLine : AreChangeLines script fonts events instants view 0 [] []
  NextLine : (place : ℕ) (before now : List Draw) (text line : List ℕ)
      → AreChangeLines script fonts events instants view place before text
      → AreDraws script fonts events (pos (rated_instant instants place)) view now
      → IsChangeLine fonts view.size (rated_instant instants place) before now line
      → AreChangeLines script fonts events instants view (place + 1) now (text ++ line)

-- The report on what changes in the picture that the events of a script show in fonts, from instant to instant, on a frame.
abbrev pub IsChangesReport : ScriptValue → List FontValue → Instants → FrameView → List ℕ → Type 0
IsChangesReport script fonts instants view text =
    (last : List Draw) × AreChangeLines script fonts (line_events script) instants view instants.count last text
