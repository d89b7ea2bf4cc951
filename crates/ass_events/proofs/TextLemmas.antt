-- How many bytes the texts of an event have.
use Rattle.std.proofs.Common.{◌≡◌, ℕ, ◌+◌, ◌-◌, ◌≤◌, Bool, true, false, not, cond, List, [], ◌∷◌, length, get_or, drop, Option, Some, None, Result, Ok, Err, ℤ, refl, ap, subst, arith, length-append}
use Rattle.std.specs.Prelude.{option_and_then}
use Rattle.std.specs.Option.{option_map_or}
use Rattle.std.specs.Str.{is_utf8}
use Rattle.std.specs.Str.Lossy.{utf8_valid_len}
use Rattle.std.specs.List.{join_with_byte, prefix_len, suffix_len}
use Rattle.std.proofs.lemmas.List.{length-take, length-drop}
use Rattle.std.proofs.lemmas.List.Splits.{join_with_byte-slice_split}
use Rattle.ass_num.specs.Numerals.{is_blank}
use Rattle.ass_num.specs.Blanks.{past_blanks, before_blanks, trimmed}
use Rattle.ass_script.specs.declared.script.EventField.{EventField}
use Rattle.ass_script.specs.declared.script.EventField.TheVariants as field
use Rattle.ass_script.specs.Scripts.{ScriptValue}
use Rattle.ass_events.specs.declared.event.Event.{Event}
use Rattle.ass_events.specs.declared.event.ChunkRefusal.{ChunkRefusal}
use Rattle.ass_events.specs.declared.event.ChunkRefusal.TheVariants.{Malformed}
use Rattle.ass_events.specs.Cuts.{pieces_of}
use Rattle.ass_events.specs.Numbers.{order_of, whole_or_zero, instant_of}
use Rattle.ass_events.specs.Fields.{FieldValues, no_fields, Column, columns_from, columns_of, field_put, column_put, examined}
use Rattle.ass_events.specs.Events.{chunk_format, is_time, event_at, timed, with_time, event_of, line_made, line_event, event_of_line}
use Rattle.ass_events.specs.Ranges.{text_bytes}

abbrev bytes_of : FieldValues → ℕ
bytes_of fields = length fields.style + length fields.name + length fields.effect + length fields.text

abbrev columns_bytes : List Column → ℕ
columns_bytes [] = 0
columns_bytes (column ∷ columns) = option_map_or length column.piece 0 + columns_bytes columns

trimmed_shorter : (t : List ℕ) → length (trimmed t) ≤ length t
unfolding trimmed past_blanks before_blanks
trimmed_shorter t =
    let u = drop (prefix_len is_blank t) t in
    omega (arith, length-take (length u - suffix_len is_blank u) u, length-drop (prefix_len is_blank t) t)

given : {N : Type 0} (o : Option N) (make : N → FieldValues) (more : FieldValues) → option_and_then (λ n. Some (make n)) o ≡ Some more → (n : N) × (make n ≡ more)
given None make more e = absurd (cc)
given (Some n) make more e = (n, cc)

-- one field adds no more bytes than its piece has
put_bytes : (f : EventField) (piece : List ℕ) (fields more : FieldValues) → field_put f piece fields ≡ Some more → bytes_of more ≤ bytes_of fields + length piece
unfolding field_put
put_bytes field.ReadOrder piece fields more e =
    subst (λ (z : FieldValues). bytes_of z ≤ bytes_of fields + length piece) (given (order_of piece) (λ n. record fields { order = n }) more e).1 (omega arith)
put_bytes field.Layer piece fields more e =
    subst (λ (z : FieldValues). bytes_of z ≤ bytes_of fields + length piece) (given (whole_or_zero piece) (λ n. record fields { layer = n }) more e).1 (omega arith)
put_bytes field.Start piece fields more e =
    subst (λ (z : FieldValues). bytes_of z ≤ bytes_of fields + length piece) (given (instant_of piece) (λ t. record fields { start = t }) more e).1 (omega arith)
put_bytes field.End piece fields more e =
    subst (λ (z : FieldValues). bytes_of z ≤ bytes_of fields + length piece) (given (instant_of piece) (λ t. record fields { end = t }) more e).1 (omega arith)
put_bytes field.MarginL piece fields more e =
    subst (λ (z : FieldValues). bytes_of z ≤ bytes_of fields + length piece) (given (whole_or_zero piece) (λ n. record fields { margin_l = n }) more e).1 (omega arith)
put_bytes field.MarginR piece fields more e =
    subst (λ (z : FieldValues). bytes_of z ≤ bytes_of fields + length piece) (given (whole_or_zero piece) (λ n. record fields { margin_r = n }) more e).1 (omega arith)
put_bytes field.MarginV piece fields more e =
    subst (λ (z : FieldValues). bytes_of z ≤ bytes_of fields + length piece) (given (whole_or_zero piece) (λ n. record fields { margin_v = n }) more e).1 (omega arith)
put_bytes field.Style piece fields more e =
    let made : record fields { style = trimmed piece } ≡ more = cc in
    subst (λ (z : FieldValues). bytes_of z ≤ bytes_of fields + length piece) made (omega (arith, trimmed_shorter piece))
put_bytes field.Name piece fields more e =
    let made : record fields { name = trimmed piece } ≡ more = cc in
    subst (λ (z : FieldValues). bytes_of z ≤ bytes_of fields + length piece) made (omega (arith, trimmed_shorter piece))
put_bytes field.Effect piece fields more e =
    let made : record fields { effect = trimmed piece } ≡ more = cc in
    subst (λ (z : FieldValues). bytes_of z ≤ bytes_of fields + length piece) made (omega (arith, trimmed_shorter piece))
put_bytes field.Text piece fields more e =
    let made : record fields { text = piece } ≡ more = cc in
    subst (λ (z : FieldValues). bytes_of z ≤ bytes_of fields + length piece) made (omega arith)
put_bytes field.Duration piece fields more e =
    let made : fields ≡ more = cc in subst (λ (z : FieldValues). bytes_of z ≤ bytes_of fields + length piece) made (omega arith)
put_bytes field.Utf8 piece fields more e =
    let made : fields ≡ more = cc in subst (λ (z : FieldValues). bytes_of z ≤ bytes_of fields + length piece) made (omega arith)
put_bytes field.Other piece fields more e =
    let made : fields ≡ more = cc in subst (λ (z : FieldValues). bytes_of z ≤ bytes_of fields + length piece) made (omega arith)

by_piece : (f : EventField) (o : Option (List ℕ)) (fields more : FieldValues) → option_and_then (λ piece. field_put f piece fields) o ≡ Some more → bytes_of more ≤ bytes_of fields + option_map_or length o 0
by_piece f (Some piece) fields more e = put_bytes f piece fields more e
by_piece f None fields more e = absurd (cc)

examined_bytes : (columns : List Column) (fields last : FieldValues) → examined columns fields ≡ Ok last → bytes_of last ≤ bytes_of fields + columns_bytes columns
unfolding examined
examined_bytes [] fields last e =
    let same : fields ≡ last = cc in subst (λ (z : FieldValues). bytes_of z ≤ bytes_of fields + 0) same (omega arith)
examined_bytes (column ∷ columns) fields last e =
    elim (column_put column fields) as (λ o. column_put column fields ≡ o → option_map_or (examined columns) o (Err (Malformed column.field column.place)) ≡ Ok last → bytes_of last ≤ bytes_of fields + columns_bytes (column ∷ columns)) [
      | Some more ↦ λ put rest. omega (arith, by_piece column.field column.piece fields more put, examined_bytes columns more last rest)
      | None ↦ λ put rest. absurd (cc)
    ] refl e

-- the pieces of the columns have no more bytes than the line
columns_fit : (len place : ℕ) (format : List EventField) (pieces : List (List ℕ)) → columns_bytes (columns_from len place format pieces) ≤ length (join_with_byte 44 pieces)
unfolding columns_from
columns_fit len place [] pieces = omega arith
columns_fit len place (f ∷ format) [] = omega (arith, columns_fit len place format [])
columns_fit len place (f ∷ []) (p ∷ ps) = omega arith
columns_fit len place (f ∷ (g ∷ gs)) (p ∷ []) = omega (arith, columns_fit len (place + length p + 1) (g ∷ gs) [])
columns_fit len place (f ∷ (g ∷ gs)) (p ∷ (q ∷ qs)) =
    omega (arith, columns_fit len (place + length p + 1) (g ∷ gs) (q ∷ qs), length-append p (44 ∷ join_with_byte 44 (q ∷ qs)))

line_bytes : (format : List EventField) (line : List ℕ) (fields : FieldValues) → examined (columns_of format line) no_fields ≡ Ok fields → bytes_of fields ≤ length line
line_bytes format line fields e =
    omega (arith, examined_bytes (columns_of format line) no_fields fields e, columns_fit (length line) 0 format (pieces_of line), ap length (join_with_byte-slice_split 44 line))

timed_is : (len : ℕ) (start duration : ℤ) (fields : FieldValues) (event : Event) → timed len start duration fields ≡ Ok event → event_at start duration fields ≡ event
timed_is len start duration fields event e = cases (is_time start) (is_time duration) e
  where
    cases : (a b : Bool) → cond (not a) (Err (Malformed field.Start len)) (cond (not b) (Err (Malformed field.Duration len)) (Ok (event_at start duration fields))) ≡ Ok event → event_at start duration fields ≡ event
    cases true true e = cc
    cases true false e = absurd (cc)
    cases false b e = absurd (cc)

pub chunk_fits : (bytes : List ℕ) (start duration : ℤ) (event : Event) → event_of bytes start duration ≡ Ok event → text_bytes event ≤ length bytes
unfolding event_of
chunk_fits bytes start duration event e = cases (is_utf8 bytes) e
  where
    said : (r : Result FieldValues ChunkRefusal) → examined (columns_of chunk_format bytes) no_fields ≡ r → with_time (length bytes) start duration r ≡ Ok event → text_bytes event ≤ length bytes
    said (Ok fields) is e =
        subst (λ (z : Event). text_bytes z ≤ length bytes) (timed_is (length bytes) start duration fields event e) (line_bytes chunk_format bytes fields is)
    said (Err refusal) is e = absurd (cc)

    cases : (b : Bool) → cond b (with_time (length bytes) start duration (examined (columns_of chunk_format bytes) no_fields)) (Err (Malformed field.Utf8 (utf8_valid_len bytes))) ≡ Ok event → text_bytes event ≤ length bytes
    cases true e = said (examined (columns_of chunk_format bytes) no_fields) refl e
    cases false e = absurd (cc)

line_fits_in : (format : List EventField) (i : ℕ) (line : List ℕ) (event : Event) → line_event format i line ≡ Ok event → text_bytes event ≤ length line
unfolding line_event
line_fits_in format i line event e = cases (examined (columns_of format line) no_fields) refl e
  where
    cases : (r : Result FieldValues ChunkRefusal) → examined (columns_of format line) no_fields ≡ r → line_made i r ≡ Ok event → text_bytes event ≤ length line
    cases (Err refusal) is e = absurd (cc)
    cases (Ok fields) is e =
        let P : Result Event ChunkRefusal → Type 0 = λ r. elim r [ Ok made ↦ text_bytes made ≤ length line | Err refusal ↦ Unit {0} ] in
        subst P e (line_bytes format line fields is)

pub line_fits : (script : ScriptValue) (i : ℕ) (event : Event) → event_of_line script i ≡ Ok event → text_bytes event ≤ length (get_or script.lines i [])
line_fits script i event e = line_fits_in script.format i (get_or script.lines i []) event e
