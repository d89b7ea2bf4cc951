-- Public: the events of a script: those of its Dialogue lines that give one, in the order of the lines.
use Rattle.std.specs.Prelude.{ℕ, List, [], ◌∷◌, length, map, Result, Ok, Err}
use Rattle.std.specs.List.{flat_map, range_with_len}
use Rattle.ass_script.specs.Scripts.{ScriptValue}
use Rattle.ass_events.specs.Events.{event_of_line}
use Rattle.ass_events.specs.declared.event.ChunkRefusal.{ChunkRefusal}
use Rattle.ass_events.specs.declared.event.Event.{Event}

-- the event of a line, where the line gives one
abbrev pub event_given : Result Event ChunkRefusal → List Event
event_given (Ok event) = event ∷ []
event_given (Err refusal) = []

-- the events of the lines before the one at `count`
abbrev pub first_events : ScriptValue → ℕ → List Event
first_events script count = flat_map event_given (map (event_of_line script) (range_with_len 0 count))

-- The events of a script. Each has the place of its line as its ReadOrder.
abbrev pub line_events : ScriptValue → List Event
line_events script = first_events script (length script.lines)
