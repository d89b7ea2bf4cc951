-- Public: what written and shifted events show, and scripts that are written again.
use Rattle.std.specs.Prelude.{◌≡◌, ℕ, ◌<◌, ◌≤◌, List, All, length, Ok, ℤ, ◌+ℤ◌, ◌-ℤ◌}
use Rattle.frame_view.specs.declared.view.FrameView.{FrameView}
use Rattle.ass_events.specs.Histories.{Pairwise}
use Rattle.ass_events.specs.Ranges.{IsEvent}
use Rattle.ass_events.specs.declared.event.Event.{Event}
use Rattle.ass_script.specs.Limits.{max_lines}
use Rattle.ass_script.specs.Ranges.{IsScript}
use Rattle.ass_script.specs.Scripts.{ScriptValue, script_of}
use Rattle.bdf_font.specs.Fonts.{FontValue}
use Rattle.blend.specs.Canvases.{CanvasValue}
use Rattle.picture_plan.specs.Pictures.{IsPictureAt}
use Rattle.ass_events.specs.ScriptEvents.{line_events}
use Rattle.track_write.specs.Ranges.{IsSpelledScript}
use Rattle.track_write.specs.Shifts.{shifted}
use Rattle.track_write.specs.Texts.{written}

-- The ReadOrders ascend.
abbrev pub HaveAscendingOrders : List Event → Type 0
HaveAscendingOrders events = Pairwise (λ e f. e.order < f.order) events

-- The text that is written is read as a script whose lines' events show at each instant what these events show.
abbrev pub PicturesAreReadBack : Type 0
PicturesAreReadBack =
    (script : ScriptValue) (fonts : List FontValue) (events : List Event) (bytes : List ℕ) (t : ℤ) (frame : FrameView) (canvas : CanvasValue)
    → IsSpelledScript script → All IsEvent events → HaveAscendingOrders events → length events ≤ max_lines → written script events ≡ Ok bytes
    → IsPictureAt script fonts events t frame canvas
    → (read : ScriptValue) × (script_of bytes ≡ Ok read) × IsPictureAt read fonts (line_events read) t frame canvas

-- Events that are so much later and so much earlier show at the instant that is so too what they showed at the old one.
abbrev pub PicturesAreShifted : Type 0
PicturesAreShifted =
    (script : ScriptValue) (fonts : List FontValue) (later earlier : ℤ) (events moved : List Event) (t : ℤ) (frame : FrameView) (canvas : CanvasValue)
    → shifted later earlier events ≡ Ok moved
    → IsPictureAt script fonts events t frame canvas → IsPictureAt script fonts moved (t +ℤ (later -ℤ earlier)) frame canvas

-- What the events of a script are: each is one, their ReadOrders ascend, and there are no more of them than a script may have lines.
pub record AreScriptEvents (events : List Event) : Type 0 where
  pub each : All IsEvent events
  pub ascend : HaveAscendingOrders events
  pub few : length events ≤ max_lines

abbrev pub ScriptsGiveEvents : Type 0
ScriptsGiveEvents = (script : ScriptValue) → IsScript script → AreScriptEvents (line_events script)

-- Each script that is read from some bytes can be said again: it is within its ranges, and its styles are such as Style lines say.
abbrev pub ReadScriptsAreSpelled : Type 0
ReadScriptsAreSpelled = (bytes : List ℕ) (script : ScriptValue) → script_of bytes ≡ Ok script → IsSpelledScript script

-- The second script shows so much later what the first one shows, at each instant, in whatever fonts and on whatever frame.
abbrev pub ShowsLater : ℤ → ScriptValue → ScriptValue → Type 0
ShowsLater by script read =
    (fonts : List FontValue) (t : ℤ) (frame : FrameView) (canvas : CanvasValue)
    → IsPictureAt script fonts (line_events script) t frame canvas → IsPictureAt read fonts (line_events read) (t +ℤ by) frame canvas

-- These bytes are read as a script that shows so much later what a script shows.
abbrev pub AreReadLater : ℤ → ScriptValue → List ℕ → Type 0
AreReadLater by script bytes = (read : ScriptValue) × (script_of bytes ≡ Ok read) × ShowsLater by script read

-- A script that is written with its own events, so much later and so much earlier, is read as one that shows them so.
abbrev pub SpelledScriptsAreReadLater : Type 0
SpelledScriptsAreReadLater =
    (script : ScriptValue) (later earlier : ℤ) (moved : List Event) (bytes : List ℕ)
    → IsSpelledScript script → shifted later earlier (line_events script) ≡ Ok moved → written script moved ≡ Ok bytes
    → AreReadLater (later -ℤ earlier) script bytes

-- So is each script that was read from some bytes.
abbrev pub ReadScriptsAreReadLater : Type 0
ReadScriptsAreReadLater =
    (source : List ℕ) (script : ScriptValue) (later earlier : ℤ) (moved : List Event) (bytes : List ℕ)
    → script_of source ≡ Ok script → shifted later earlier (line_events script) ≡ Ok moved → written script moved ≡ Ok bytes
    → AreReadLater (later -ℤ earlier) script bytes
