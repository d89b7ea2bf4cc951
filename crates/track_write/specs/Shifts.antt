-- Public: events at other instants.
use Rattle.std.specs.Prelude.{ℕ, ◌+ℤ◌, ◌-ℤ◌, if◌then◌else◌, List, [], ◌∷◌, map, Option, Some, None, Result, Ok, Err, ℤ}
use Rattle.std.specs.Option.{option_map_or}
use Rattle.ass_script.specs.declared.script.EventField.TheVariants as field
use Rattle.ass_events.specs.Events.{is_time}
use Rattle.ass_events.specs.declared.event.Event.{Event}
use Rattle.track_write.specs.declared.refusal.WriteRefusal.{WriteRefusal}
use Rattle.track_write.specs.declared.refusal.WriteRefusal.TheVariants.{Unwritable}

-- an event that begins so much later
abbrev pub later_event : ℤ → Event → Event
later_event by event = record event { start = event.start +ℤ by }

-- when it begins, where that is an instant
abbrev pub moved_start : ℤ → Event → Option ℤ
moved_start by event = if is_time (later_event by event).start then Some (later_event by event).start else None

-- the event that begins so much later, or a refusal where that is no instant
abbrev pub shifted_event : ℤ → Event → Result Event WriteRefusal
shifted_event by event = if is_time (later_event by event).start then Ok (later_event by event) else Err (Unwritable event.order field.Start)

-- the ReadOrder of the first event that would begin at no instant
abbrev pub first_outside : ℤ → List Event → Option ℕ
first_outside by [] = None
first_outside by (event ∷ events) = if is_time (later_event by event).start then first_outside by events else Some event.order

-- all events so much later, or the first one that would begin at no instant
abbrev pub moved_events : ℤ → List Event → Result (List Event) WriteRefusal
moved_events by events = option_map_or (λ order. Err (Unwritable order field.Start)) (first_outside by events) (Ok (map (later_event by) events))

-- The events that much later and that much earlier, or the first one that would begin at no instant.
abbrev pub shifted : ℤ → ℤ → List Event → Result (List Event) WriteRefusal
shifted later earlier events = moved_events (later -ℤ earlier) events
