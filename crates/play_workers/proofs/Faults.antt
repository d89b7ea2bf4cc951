-- Each line gives an event or tells its fault.
use Rattle.std.proofs.Common.{◌≡◌, ℕ, ◌+◌, Bool, true, false, not, List, [], ◌∷◌, ◌++◌, map, refl, sym, ap, ◌∙◌, arith, Option, Some, None, Result, Ok, Err}
use Rattle.std.specs.Prelude.{slice_index_or}
use Rattle.std.specs.List.{range_with_len}
use Rattle.std.proofs.lemmas.List.FromFn.{map-range_with_len_more}
use Rattle.std.specs.Option.{is_none, is_some, option_map_or}
use Rattle.std.specs.Result.{is_ok}
use Rattle.ass_script.specs.Scripts.{ScriptValue}
use Rattle.ass_script.specs.declared.script.EventField.{EventField}
use Rattle.ass_events.specs.Events.{event_of_line, fault_of, line_event, line_fault, line_made}
use Rattle.ass_events.specs.Fields.{Column, FieldValues, column_put, columns_of, examined, no_fields}
use Rattle.ass_events.specs.declared.event.Event.{Event}
use Rattle.ass_events.specs.declared.event.ChunkRefusal.{ChunkRefusal}
use Rattle.ass_events.specs.declared.event.ChunkRefusal.TheVariants.{Malformed, OutOfMemory}

first_fault : (o : Option FieldValues) (columns : List Column) (f : EventField) (place : ℕ) → ((fields : FieldValues) → examined columns fields ≡ Err OutOfMemory → ⊥)
    → option_map_or (examined columns) o (Err (Malformed f place)) ≡ Err OutOfMemory → ⊥
first_fault (Some fields) columns f place more e = more fields e
first_fault None columns f place more e = cc

-- no line is refused for lack of memory
examined_without : (columns : List Column) (fields : FieldValues) → examined columns fields ≡ Err OutOfMemory → ⊥
unfolding examined
examined_without [] fields e = cc
examined_without (column ∷ columns) fields e = first_fault (column_put column fields) columns column.field column.place (examined_without columns) e

made_without : (i : ℕ) (r : Result FieldValues ChunkRefusal) → (r ≡ Err OutOfMemory → ⊥) → line_made i r ≡ Err OutOfMemory → ⊥
made_without i (Ok fields) other e = cc
made_without i (Err refusal) other e = let same : refusal ≡ OutOfMemory = cc in other (ap Err same)

line_without : (format : List EventField) (i : ℕ) (line : List ℕ) → line_event format i line ≡ Err OutOfMemory → ⊥
unfolding line_event
line_without format i line e = made_without i (examined (columns_of format line) no_fields) (examined_without (columns_of format line) no_fields) e

told : (r : Result Event ChunkRefusal) → (r ≡ Err OutOfMemory → ⊥) → is_none (fault_of r) ≡ is_ok r
told (Ok event) other = refl
told (Err (Malformed f place)) other = refl
told (Err OutOfMemory) other = absurd (other refl)

-- a line without a fault gives an event, and no other does
pub good_without_fault : (script : ScriptValue) (i : ℕ) → is_none (line_fault script i) ≡ is_ok (event_of_line script i)
good_without_fault script i = told (event_of_line script i) (line_without script.format i (slice_index_or script.lines i []))

none_flag : {X : Type 0} (o : Option X) (flag : Bool) → is_some o ≡ not flag → flag ≡ is_none o
none_flag None true e = refl
none_flag None false e = absurd cc
none_flag (Some x) true e = absurd cc
none_flag (Some x) false e = refl

-- a flag more
pub flags_more : (script : ScriptValue) (i : ℕ) (good next : List Bool) (fault : Option (EventField × ℕ)) (flag : Bool) → good ≡ map (λ j. is_ok (event_of_line script j)) (range_with_len 0 i)
    → fault ≡ line_fault script i → is_some fault ≡ not flag → next ≡ good ++ flag ∷ [] → next ≡ map (λ j. is_ok (event_of_line script j)) (range_with_len 0 (i + 1))
flags_more script i good next fault flag was is told more =
    more ∙ ap (λ z. z ++ flag ∷ []) was
    ∙ ap (λ b. map (λ j. is_ok (event_of_line script j)) (range_with_len 0 i) ++ b ∷ []) (none_flag fault flag told ∙ ap is_none is ∙ good_without_fault script i)
    ∙ sym (map-range_with_len_more (λ j. is_ok (event_of_line script j)) 0 i i (omega arith))
