-- Public: what holds of all chunks and lines.
use Rattle.std.specs.Prelude.{◌≡◌, ℕ, ◌<◌, ◌≤◌, ◌↔◌, ℤ, List, [], length, slice_index_or, Some, Ok}
use Rattle.ass_num.specs.Numerals.{IsTime}
use Rattle.ass_script.specs.Scripts.{ScriptValue}
use Rattle.ass_script.specs.Ranges.{IsScript}
use Rattle.ass_events.specs.declared.event.Event.{Event}
use Rattle.ass_events.specs.Numbers.{time_of}
use Rattle.ass_events.specs.Events.{event_of, chunk_bytes, event_of_line}
use Rattle.ass_events.specs.Ranges.{IsEvent, text_bytes}

-- Each event of a chunk is within the ranges of events.
abbrev pub ChunksGiveEvents : Type 0
ChunksGiveEvents = (bytes : List ℕ) (start duration : ℤ) (event : Event) → event_of bytes start duration ≡ Ok event → IsEvent event

-- An event within them is what its own chunk gives.
abbrev pub WrittenIsReadBack : Type 0
WrittenIsReadBack = (event : Event) → IsEvent event → event_of (chunk_bytes event) event.start event.duration ≡ Ok event

-- So is each event of a line of a script.
abbrev pub LinesGiveEvents : Type 0
LinesGiveEvents = (script : ScriptValue) (i : ℕ) (event : Event) → IsScript script → i < length script.lines → event_of_line script i ≡ Ok event → IsEvent event

-- The chunk of such a line gives the event of the line.
abbrev pub ChunksOfLinesAreRead : Type 0
ChunksOfLinesAreRead = (script : ScriptValue) (i : ℕ) (event : Event) → IsScript script → i < length script.lines → event_of_line script i ≡ Ok event →
    event_of (chunk_bytes event) event.start event.duration ≡ Ok event

-- The texts of a chunk's event have together no more bytes than the chunk.
abbrev pub TextsFitChunks : Type 0
TextsFitChunks = (bytes : List ℕ) (start duration : ℤ) (event : Event) → event_of bytes start duration ≡ Ok event → text_bytes event ≤ length bytes

-- Those of a line's event have no more than the line.
abbrev pub TextsFitLines : Type 0
TextsFitLines = (script : ScriptValue) (i : ℕ) (event : Event) → event_of_line script i ≡ Ok event → text_bytes event ≤ length (slice_index_or script.lines i [])

-- Times are read as those of scripts are.
abbrev pub TimesAreRead : Type 0
TimesAreRead = (text : List ℕ) (t : ℤ) → (time_of text ≡ Some t) ↔ IsTime text t
