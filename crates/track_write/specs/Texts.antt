-- Public: which events can be written, and the text of a script.
use Rattle.std.specs.Prelude.{◌≡◌, ℕ, ◌-◌, ◌==◌, ◌&&◌, ◌||◌, not, int_le, Bool, if◌then◌else◌, List, [], ◌∷◌, length, slice_index, Option, Some, None, Result, Ok, Err, ℤ, pos}
use Rattle.std.specs.Int.{int_rem_euclid}
use Rattle.std.specs.List.{list_any}
use Rattle.std.specs.Option.{option_map_or}
use Rattle.std.specs.Ordering.{int_eq}
use Rattle.ass_script.specs.Scripts.{ScriptValue}
use Rattle.ass_script.specs.declared.script.EventField.{EventField}
use Rattle.ass_script.specs.declared.script.EventField.TheVariants as field
use Rattle.ass_events.specs.declared.event.Event.{Event}
use Rattle.track_write.specs.Rows.{event_end, script_bytes}
use Rattle.track_write.specs.declared.refusal.WriteRefusal.{WriteRefusal}
use Rattle.track_write.specs.declared.refusal.WriteRefusal.TheVariants.{Unwritable, OutOfMemory}

-- the last end that a line says: 999,999 hours and a hundredth less than another
abbrev pub max_written_end : ℕ
max_written_end = 3599999999990

-- whole hundredths of a second
abbrev pub is_hundredths : ℤ → Bool
is_hundredths t = int_eq (int_rem_euclid t (pos 10)) (pos 0)

abbrev pub is_line_feed : ℕ → Bool
is_line_feed c = c == 10

abbrev pub has_line_feed : List ℕ → Bool
has_line_feed text = list_any is_line_feed text

-- the last byte is a carriage return
abbrev pub ends_in_return : List ℕ → Bool
ends_in_return text = slice_index text (length text - 1) == 13

-- a text that can't be the last field of a line
abbrev pub is_broken : List ℕ → Bool
is_broken text = has_line_feed text || ends_in_return text

-- whole hundredths, and no later than the last end
abbrev pub is_written_end : ℤ → Bool
is_written_end t = is_hundredths t && int_le t (pos max_written_end)

-- the first text of an event that no line can say
unfoldable pub text_fault : Event → Option EventField
text_fault event =
    if has_line_feed event.style then Some field.Style
    else if has_line_feed event.name then Some field.Name
    else if has_line_feed event.effect then Some field.Effect
    else if is_broken event.text then Some field.Text
    else None

-- the first field of an event that no line can say
unfoldable pub event_fault : Event → Option EventField
event_fault event =
    if not (is_hundredths event.start) then Some field.Start
    else if not (is_written_end (event_end event)) then Some field.End
    else text_fault event

-- the ReadOrder of the first event that no line can say, and the field
abbrev pub first_fault : List Event → Option (ℕ × EventField)
first_fault [] = None
first_fault (event ∷ events) = option_map_or (λ f. Some (event.order, f)) (event_fault event) (first_fault events)

-- The text of a script with these events, or the first event that refuses and its first field that does.
abbrev pub written : ScriptValue → List Event → Result (List ℕ) WriteRefusal
written script events = option_map_or (λ fault. Err (Unwritable fault.0 fault.1)) (first_fault events) (Ok (script_bytes script events))

-- The answer is this one, unless memory ran out; `said` is what the value that is given says.
abbrev pub IsWriteAnswer : {V W : Type 0} → (V → W) → Result V WriteRefusal → Result W WriteRefusal → Type 0
IsWriteAnswer said (Ok value) wanted = wanted ≡ Ok (said value)
IsWriteAnswer said (Err (Unwritable order f)) wanted = wanted ≡ Err (Unwritable order f)
IsWriteAnswer said (Err OutOfMemory) wanted = Unit {0}
