-- Public: a generated script is a script, and its lines give events.
use Rattle.std.specs.Prelude.{◌≡◌, ℕ, ◌*◌, ◌≤◌, pos, [], codes, length, map, Ok}
use Rattle.std.specs.List.{range_with_len}
use Rattle.ass_events.specs.declared.event.Event.{Event}
use Rattle.ass_num.specs.Limits.{max_file_bytes}
use Rattle.ass_script.specs.Limits.{max_lines}
use Rattle.ass_script.specs.Scripts.{ScriptValue, script_of}
use Rattle.generated_script.specs.Draws.{state_after_draws}
use Rattle.generated_script.specs.Generated.{generated}
use Rattle.generated_script.specs.Lines.{event_text, line_numbers}
use Rattle.generated_script.specs.declared.lines.LineNumbers.{LineNumbers}
use Rattle.run_words.specs.Limits.{max_events}
use Rattle.ass_events.specs.ScriptEvents.{line_events}

-- the event at place i that has these numbers: it starts a tenth of a second after the one before
abbrev pub event_of_numbers : ℕ → LineNumbers → Event
event_of_numbers i numbers = record {
  order = i;
  layer = pos numbers.layer;
  start = pos (100 * i);
  duration = pos (10 * numbers.length);
  style = codes "Default";
  name = [];
  margin_l = pos 0;
  margin_r = pos 0;
  margin_v = pos 0;
  effect = [];
  text = event_text numbers;
}

-- the event at place i that a seed generates: each before it took six draws
abbrev pub generated_event : ℕ → ℕ → Event
generated_event seed i = event_of_numbers i (line_numbers (state_after_draws (6 * i) seed))

-- A generated script is read, and has a Dialogue line for each event, as far as a script may have so many.
abbrev pub GeneratedScriptsAreRead : Type 0
GeneratedScriptsAreRead = (seed events : ℕ) → events ≤ max_lines → (script : ScriptValue) × (script_of (generated seed events) ≡ Ok script) × (length script.lines ≡ events)

-- Each of these lines gives its event.
abbrev pub GeneratedLinesGiveEvents : Type 0
GeneratedLinesGiveEvents =
    (seed events : ℕ) (script : ScriptValue) → events ≤ max_lines → script_of (generated seed events) ≡ Ok script
    → line_events script ≡ map (generated_event seed) (range_with_len 0 events)

-- A file can hold it, where words may ask for so many events.
abbrev pub GeneratedScriptsFit : Type 0
GeneratedScriptsFit = (seed events : ℕ) → events ≤ max_events → length (generated seed events) ≤ max_file_bytes
