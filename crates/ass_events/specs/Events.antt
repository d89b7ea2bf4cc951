-- Public: events, and the chunks that give them.
use Rattle.std.specs.Prelude.{◌≡◌, ℕ, ℤ, pos, ◌-ℤ◌, int_le, slice_index_or, Bool, not, ◌&&◌, if◌then◌else◌, List, [], ◌∷◌, length, Option, Some, None, Result, Ok, Err}
use Rattle.std.specs.List.{join_with_byte}
use Rattle.ass_num.specs.Bytes.{comma}
use Rattle.ass_num.specs.Limits.{max_instant}
use Rattle.ass_script.specs.Scripts.{ScriptValue}
use Rattle.std.specs.Int.{int_max}
use Rattle.std.specs.Fmt.{decimal, signed_decimal}
use Rattle.std.specs.Str.{is_utf8}
use Rattle.std.specs.Str.Lossy.{utf8_valid_len}
use Rattle.ass_script.specs.declared.script.EventField.{EventField}
use Rattle.ass_script.specs.declared.script.EventField.TheVariants as field
use Rattle.ass_events.specs.declared.event.Event.{Event}
use Rattle.ass_events.specs.declared.event.Chunk.{Chunk}
use Rattle.ass_events.specs.declared.event.ChunkRefusal.{ChunkRefusal}
use Rattle.ass_events.specs.declared.event.ChunkRefusal.TheVariants.{Malformed, OutOfMemory}
use Rattle.ass_events.specs.Fields.{FieldValues, no_fields, columns_of, examined}

-- The answer is this one, unless memory ran out.
abbrev pub IsChunkAnswer : {Value : Type 0} → Result Value ChunkRefusal → Result Value ChunkRefusal → Type 0
IsChunkAnswer (Ok value) wanted = wanted ≡ Ok value
IsChunkAnswer (Err (Malformed f place)) wanted = wanted ≡ Err (Malformed f place)
IsChunkAnswer (Err OutOfMemory) wanted = Unit {0}

-- the fields of a chunk, in order
abbrev pub chunk_format : List EventField
chunk_format = field.ReadOrder ∷ field.Layer ∷ field.Style ∷ field.Name ∷ field.MarginL ∷ field.MarginR ∷ field.MarginV ∷ field.Effect ∷ field.Text ∷ []

-- an instant or a duration that may be: 0 to 4,000,000,000,000 milliseconds
abbrev pub is_time : ℤ → Bool
is_time t = int_le (pos 0) t && int_le t (pos max_instant)

-- the event of these fields, at its time
abbrev pub event_at : ℤ → ℤ → FieldValues → Event
event_at start duration fields = record {
  order = fields.order;
  layer = fields.layer;
  style = fields.style;
  name = fields.name;
  margin_l = fields.margin_l;
  margin_r = fields.margin_r;
  margin_v = fields.margin_v;
  effect = fields.effect;
  text = fields.text;
  start = start;
  duration = duration;
}

-- the time beside a chunk of so many bytes, examined after its fields
abbrev pub timed : ℕ → ℤ → ℤ → FieldValues → Result Event ChunkRefusal
timed len start duration fields =
    if not (is_time start) then Err (Malformed field.Start len)
    else (if not (is_time duration) then Err (Malformed field.Duration len)
    else Ok (event_at start duration fields))

abbrev pub with_time : ℕ → ℤ → ℤ → Result FieldValues ChunkRefusal → Result Event ChunkRefusal
with_time len start duration (Ok fields) = timed len start duration fields
with_time len start duration (Err refusal) = Err refusal

-- The event that a chunk gives, or the first of its fields that can't be read, with its place.
unfoldable pub event_of : List ℕ → ℤ → ℤ → Result Event ChunkRefusal
event_of bytes start duration =
    if is_utf8 bytes then with_time (length bytes) start duration (examined (columns_of chunk_format bytes) no_fields)
    else Err (Malformed field.Utf8 (utf8_valid_len bytes))

-- the bytes of an event's chunk, `ReadOrder,Layer,Style,Name,MarginL,MarginR,MarginV,Effect,Text`
abbrev pub chunk_bytes : Event → List ℕ
chunk_bytes event = join_with_byte comma (
    decimal event.order ∷ signed_decimal event.layer ∷ event.style ∷ event.name ∷ signed_decimal event.margin_l
    ∷ signed_decimal event.margin_r ∷ signed_decimal event.margin_v ∷ event.effect ∷ event.text ∷ [])

-- the bytes of the chunk of these fields with this ReadOrder; the time stands beside them
abbrev pub fields_bytes : ℕ → FieldValues → List ℕ
fields_bytes order fields = chunk_bytes (event_at fields.start fields.end (record fields { order = order }))

-- the chunk of an event
abbrev pub chunk_made : Event → Chunk
chunk_made event = record { bytes = chunk_bytes event; start = event.start; duration = event.duration }

-- how long an event lasts that has these two times
abbrev pub duration_between : ℤ → ℤ → ℤ
duration_between start last = int_max (pos 0) (last -ℤ start)

-- the event of the fields of the line at `i`
abbrev pub line_made : ℕ → Result FieldValues ChunkRefusal → Result Event ChunkRefusal
line_made i (Ok fields) = Ok (event_at fields.start (duration_between fields.start fields.end) (record fields { order = i }))
line_made i (Err refusal) = Err refusal

-- The event of a Dialogue line under a format, with its place among the lines as its ReadOrder, or the first field that refuses.
unfoldable pub line_event : List EventField → ℕ → List ℕ → Result Event ChunkRefusal
line_event format i line = line_made i (examined (columns_of format line) no_fields)

-- the event of the Dialogue line at `i` of a script
abbrev pub event_of_line : ScriptValue → ℕ → Result Event ChunkRefusal
event_of_line script i = line_event script.format i (slice_index_or script.lines i [])

-- the first field that refuses and its place, where there is no event
abbrev pub fault_of : Result Event ChunkRefusal → Option (EventField × ℕ)
fault_of (Ok event) = None
fault_of (Err (Malformed f place)) = Some (f, place)
fault_of (Err OutOfMemory) = None

-- the first field of the Dialogue line at `i` of a script that can't be read or is missing, and its place
abbrev pub line_fault : ScriptValue → ℕ → Option (EventField × ℕ)
line_fault script i = fault_of (event_of_line script i)

abbrev pub chunked : Result Event ChunkRefusal → Result Chunk ChunkRefusal
chunked (Ok event) = Ok (chunk_made event)
chunked (Err refusal) = Err refusal

-- The chunk of the Dialogue line at `i` of a script, or the first field that refuses.
abbrev pub chunk_of : ScriptValue → ℕ → Result Chunk ChunkRefusal
chunk_of script i = chunked (event_of_line script i)
