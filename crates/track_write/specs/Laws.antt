-- Public: what a written script is read as.
use Rattle.std.specs.Prelude.{◌≡◌, ℕ, ◌≤◌, List, All, length, map, slice_get, Some, Ok, ℤ, ◌+ℤ◌}
use Rattle.ass_script.specs.Fields.{usual_event_fields}
use Rattle.ass_script.specs.Limits.{max_lines}
use Rattle.ass_script.specs.Scripts.{ScriptValue, script_of}
use Rattle.ass_script.specs.declared.lines.Version.TheVariants.{V4Plus}
use Rattle.ass_events.specs.Events.{event_of_line}
use Rattle.ass_events.specs.NearEvents.{span_of, AreNear}
use Rattle.ass_events.specs.Ranges.{IsEvent}
use Rattle.ass_events.specs.declared.event.Event.{Event}
use Rattle.track_write.specs.Ranges.{IsSpelledStyle, IsSpelledScript}
use Rattle.track_write.specs.Rows.{spoken}
use Rattle.track_write.specs.Shifts.{later_event}
use Rattle.track_write.specs.Texts.{written}

-- the same header and styles, with one line for each event
abbrev pub script_read : ScriptValue → List Event → ScriptValue
script_read script events = record { header = script.header; styles = script.styles; format = usual_event_fields V4Plus; lines = map spoken events }

-- The text that is written spells the script with the same header and styles.
abbrev pub ScriptsAreReadBack : Type 0
ScriptsAreReadBack = (script : ScriptValue) (events : List Event) (bytes : List ℕ) → IsSpelledScript script → All IsEvent events → length events ≤ max_lines →
    written script events ≡ Ok bytes → script_of bytes ≡ Ok (script_read script events)

-- Its lines give the same events, with their places as their ReadOrders.
abbrev pub EventsAreReadBack : Type 0
EventsAreReadBack = (script : ScriptValue) (events : List Event) (bytes : List ℕ) (i : ℕ) (event : Event) → All IsEvent events →
    written script events ≡ Ok bytes → slice_get events i ≡ Some event → event_of_line (script_read script events) i ≡ Ok (record event { order = i })

-- The styles of each script that is read are such as Style lines can say, so that the script is written and read back.
abbrev pub StylesAreSpelled : Type 0
StylesAreSpelled = (bytes : List ℕ) (script : ScriptValue) → script_of bytes ≡ Ok script → All IsSpelledStyle script.styles

-- What matters of shifted events at the shifted instant are the events that mattered, shifted: they are shown then and placed clear of each other as before.
abbrev pub NearEventsAreMoved : Type 0
NearEventsAreMoved = (by : ℤ) (events near : List Event) (t : ℤ) → AreNear span_of events t near → AreNear span_of (map (later_event by) events) (t +ℤ by) (map (later_event by) near)
