-- What holds of the fields that are read, and the steps of reading a chunk.
use Rattle.std.proofs.Common.{◌≡◌, ℕ, ◌+◌, ◌≤◌, true, false, not, cond, List, [], ◌∷◌, ◌++◌, length, Option, Some, None, Result, Ok, Err, ℤ, pos, refl, sym, ap, ◌∙◌, subst, arith}
use Rattle.std.specs.Prelude.{option_and_then}
use Rattle.std.specs.Option.{option_map_or}
use Rattle.std.specs.Str.{IsUtf8, is_utf8}
use Rattle.std.specs.Str.Lossy.{utf8_valid_len}
use Rattle.std.specs.List.{All, join_with_byte}
use Rattle.std.proofs.lemmas.Str.{IsUtf8-from_is_utf8, is_utf8-from_IsUtf8, IsUtf8-nil}
use Rattle.std.proofs.lemmas.Int.{ints}
use Rattle.std.proofs.lemmas.List.Elements.{All-nil}
use Rattle.ass_num.specs.Limits.{IsWithin, max_whole}
use Rattle.ass_script.specs.declared.script.EventField.{EventField}
use Rattle.ass_script.specs.declared.script.EventField.TheVariants as field
use Rattle.ass_events.specs.declared.event.Chunk.{Chunk}
use Rattle.ass_events.specs.declared.event.Event.{Event}
use Rattle.ass_events.specs.declared.event.ChunkRefusal.{ChunkRefusal}
use Rattle.ass_events.specs.declared.event.ChunkRefusal.TheVariants.{Malformed, OutOfMemory}
use Rattle.ass_num.specs.Blanks.{past_blanks, before_blanks, trimmed}
use Rattle.ass_script.specs.Words.{is_comma}
use Rattle.ass_events.specs.Cuts.{pieces_of}
use Rattle.ass_events.specs.Numbers.{order_of, whole_or_zero, instant_of}
use Rattle.ass_events.specs.Fields.{FieldValues, no_fields, Column, columns_from, columns_of, column_put, field_put, examined, HaveUtf8}
use Rattle.ass_events.specs.Plain.{plain, Reads}
use Rattle.ass_events.specs.Events.{IsChunkAnswer, chunk_format, is_time, event_at, timed, with_time, event_of, fault_of, chunked, line_made, line_event}
use Rattle.ass_events.specs.Ranges.{IsName}
use Rattle.ass_events.proofs.NumberLemmas.{IsLineTime, number_small, order_small, instant_small}
use Rattle.ass_events.proofs.PieceLemmas.{EachUtf8, EachPlain, pieces_plain, pieces_utf8, joined_utf8}
use Rattle.ass_num.proofs.TrimmedLemmas.{trimmed-trimmed, trimmed_utf8, All-trimmed}

-- ---- a fact that each field keeps

-- the fact holds of each of the columns
abbrev pub Each : (Column → Type 0) → List Column → Type 0
Each Q [] = Unit {0}
Each Q (column ∷ columns) = Q column × Each Q columns

-- What a fact needs to be kept by every column that another fact holds of.
abbrev pub Keeps : (FieldValues → Type 0) → (Column → Type 0) → Type 0
Keeps P Q = (column : Column) (fields more : FieldValues) → Q column → P fields → column_put column fields ≡ Some more → P more

pub examined_keeps : (P : FieldValues → Type 0) (Q : Column → Type 0) → Keeps P Q → (columns : List Column) (fields last : FieldValues) → Each Q columns → P fields → examined columns fields ≡ Ok last → P last
unfolding examined
examined_keeps P Q keeps [] fields last each kept e = let same : fields ≡ last = cc in subst P same kept
examined_keeps P Q keeps (column ∷ columns) fields last each kept e =
    elim (column_put column fields) as (λ o. column_put column fields ≡ o → option_map_or (examined columns) o (Err (Malformed column.field column.place)) ≡ Ok last → P last) [
      | Some more ↦ λ put rest. examined_keeps P Q keeps columns more last each.1 (keeps column fields more each.0 kept put) rest
      | None ↦ λ put rest. absurd (cc)
    ] refl e

-- ---- numbers and times are in their ranges

pub record AreInRange (fields : FieldValues) : Type 0 where
  pub order : fields.order ≤ max_whole
  pub layer : IsWithin max_whole fields.layer
  pub start : IsLineTime fields.start
  pub last : IsLineTime fields.end
  pub margin_l : IsWithin max_whole fields.margin_l
  pub margin_r : IsWithin max_whole fields.margin_r
  pub margin_v : IsWithin max_whole fields.margin_v

-- what a value that was read was put into
record Put {N : Type 0} (o : Option N) (make : N → FieldValues) (more : FieldValues) : Type 0 where
  value : N
  read : o ≡ Some value
  made : make value ≡ more

put_of : {N : Type 0} (o : Option N) (make : N → FieldValues) (more : FieldValues) → option_and_then (λ n. Some (make n)) o ≡ Some more → Put o make more
put_of None make more e = absurd (cc)
put_of (Some n) make more e = record { value = n; read = refl; made = cc }

in_range_put : (f : EventField) (piece : List ℕ) (fields more : FieldValues) → AreInRange fields → field_put f piece fields ≡ Some more → AreInRange more
unfolding field_put
in_range_put field.ReadOrder piece fields more p e =
    let put = put_of (order_of piece) (λ n. record fields { order = n }) more e in
    subst AreInRange put.made (record { order = order_small piece put.value put.read; layer = p.layer; start = p.start; last = p.last; margin_l = p.margin_l; margin_r = p.margin_r; margin_v = p.margin_v })
in_range_put field.Layer piece fields more p e =
    let put = put_of (whole_or_zero piece) (λ n. record fields { layer = n }) more e in
    subst AreInRange put.made (record { order = p.order; layer = number_small piece put.value put.read; start = p.start; last = p.last; margin_l = p.margin_l; margin_r = p.margin_r; margin_v = p.margin_v })
in_range_put field.Start piece fields more p e =
    let put = put_of (instant_of piece) (λ t. record fields { start = t }) more e in
    subst AreInRange put.made (record { order = p.order; layer = p.layer; start = instant_small piece put.value put.read; last = p.last; margin_l = p.margin_l; margin_r = p.margin_r; margin_v = p.margin_v })
in_range_put field.End piece fields more p e =
    let put = put_of (instant_of piece) (λ t. record fields { end = t }) more e in
    subst AreInRange put.made (record { order = p.order; layer = p.layer; start = p.start; last = instant_small piece put.value put.read; margin_l = p.margin_l; margin_r = p.margin_r; margin_v = p.margin_v })
in_range_put field.MarginL piece fields more p e =
    let put = put_of (whole_or_zero piece) (λ n. record fields { margin_l = n }) more e in
    subst AreInRange put.made (record { order = p.order; layer = p.layer; start = p.start; last = p.last; margin_l = number_small piece put.value put.read; margin_r = p.margin_r; margin_v = p.margin_v })
in_range_put field.MarginR piece fields more p e =
    let put = put_of (whole_or_zero piece) (λ n. record fields { margin_r = n }) more e in
    subst AreInRange put.made (record { order = p.order; layer = p.layer; start = p.start; last = p.last; margin_l = p.margin_l; margin_r = number_small piece put.value put.read; margin_v = p.margin_v })
in_range_put field.MarginV piece fields more p e =
    let put = put_of (whole_or_zero piece) (λ n. record fields { margin_v = n }) more e in
    subst AreInRange put.made (record { order = p.order; layer = p.layer; start = p.start; last = p.last; margin_l = p.margin_l; margin_r = p.margin_r; margin_v = number_small piece put.value put.read })
in_range_put field.Style piece fields more p e = let made : record fields { style = trimmed piece } ≡ more = cc in subst AreInRange made (record { order = p.order; layer = p.layer; start = p.start; last = p.last; margin_l = p.margin_l; margin_r = p.margin_r; margin_v = p.margin_v })
in_range_put field.Name piece fields more p e = let made : record fields { name = trimmed piece } ≡ more = cc in subst AreInRange made (record { order = p.order; layer = p.layer; start = p.start; last = p.last; margin_l = p.margin_l; margin_r = p.margin_r; margin_v = p.margin_v })
in_range_put field.Effect piece fields more p e = let made : record fields { effect = trimmed piece } ≡ more = cc in subst AreInRange made (record { order = p.order; layer = p.layer; start = p.start; last = p.last; margin_l = p.margin_l; margin_r = p.margin_r; margin_v = p.margin_v })
in_range_put field.Text piece fields more p e = let made : record fields { text = piece } ≡ more = cc in subst AreInRange made (record { order = p.order; layer = p.layer; start = p.start; last = p.last; margin_l = p.margin_l; margin_r = p.margin_r; margin_v = p.margin_v })
in_range_put field.Duration piece fields more p e = let made : fields ≡ more = cc in subst AreInRange made p
in_range_put field.Utf8 piece fields more p e = let made : fields ≡ more = cc in subst AreInRange made p
in_range_put field.Other piece fields more p e = let made : fields ≡ more = cc in subst AreInRange made p

-- ---- names have no commas, and all texts are UTF-8

pub record AreTexts (fields : FieldValues) : Type 0 where
  pub style : IsName fields.style
  pub name : IsName fields.name
  pub effect : IsName fields.effect
  pub text : IsUtf8 fields.text

-- the text of a column, where it has one: only the field Text may have commas
pub record IsSound (column : Column) (piece : List ℕ) : Type 0 where
  pub utf8 : IsUtf8 piece
  pub no_comma : (column.field ≡ field.Text → ⊥) → All (λ c. is_comma c ≡ false) piece

abbrev pub SoundColumn : Column → Type 0
SoundColumn column = (piece : List ℕ) → column.piece ≡ Some piece → IsSound column piece

name_of : (piece : List ℕ) → IsUtf8 piece → All (λ c. is_comma c ≡ false) piece → IsName (trimmed piece)
name_of piece utf8 none = record { utf8 = trimmed_utf8 piece utf8; no_comma = All-trimmed (λ c. is_comma c ≡ false) piece none; bare = trimmed-trimmed piece }

texts_put : (f : EventField) (piece : List ℕ) (fields more : FieldValues) → IsUtf8 piece → ((f ≡ field.Text → ⊥) → All (λ c. is_comma c ≡ false) piece) → AreTexts fields → field_put f piece fields ≡ Some more → AreTexts more
unfolding field_put
texts_put field.ReadOrder piece fields more utf8 none p e =
    subst AreTexts (put_of (order_of piece) (λ n. record fields { order = n }) more e).made (record { style = p.style; name = p.name; effect = p.effect; text = p.text })
texts_put field.Layer piece fields more utf8 none p e =
    subst AreTexts (put_of (whole_or_zero piece) (λ n. record fields { layer = n }) more e).made (record { style = p.style; name = p.name; effect = p.effect; text = p.text })
texts_put field.Start piece fields more utf8 none p e =
    subst AreTexts (put_of (instant_of piece) (λ t. record fields { start = t }) more e).made (record { style = p.style; name = p.name; effect = p.effect; text = p.text })
texts_put field.End piece fields more utf8 none p e =
    subst AreTexts (put_of (instant_of piece) (λ t. record fields { end = t }) more e).made (record { style = p.style; name = p.name; effect = p.effect; text = p.text })
texts_put field.MarginL piece fields more utf8 none p e =
    subst AreTexts (put_of (whole_or_zero piece) (λ n. record fields { margin_l = n }) more e).made (record { style = p.style; name = p.name; effect = p.effect; text = p.text })
texts_put field.MarginR piece fields more utf8 none p e =
    subst AreTexts (put_of (whole_or_zero piece) (λ n. record fields { margin_r = n }) more e).made (record { style = p.style; name = p.name; effect = p.effect; text = p.text })
texts_put field.MarginV piece fields more utf8 none p e =
    subst AreTexts (put_of (whole_or_zero piece) (λ n. record fields { margin_v = n }) more e).made (record { style = p.style; name = p.name; effect = p.effect; text = p.text })
texts_put field.Style piece fields more utf8 none p e =
    let made : record fields { style = trimmed piece } ≡ more = cc in
    subst AreTexts made (record { style = name_of piece utf8 (none (λ same. cc)); name = p.name; effect = p.effect; text = p.text })
texts_put field.Name piece fields more utf8 none p e =
    let made : record fields { name = trimmed piece } ≡ more = cc in
    subst AreTexts made (record { style = p.style; name = name_of piece utf8 (none (λ same. cc)); effect = p.effect; text = p.text })
texts_put field.Effect piece fields more utf8 none p e =
    let made : record fields { effect = trimmed piece } ≡ more = cc in
    subst AreTexts made (record { style = p.style; name = p.name; effect = name_of piece utf8 (none (λ same. cc)); text = p.text })
texts_put field.Text piece fields more utf8 none p e =
    let made : record fields { text = piece } ≡ more = cc in
    subst AreTexts made (record { style = p.style; name = p.name; effect = p.effect; text = utf8 })
texts_put field.Duration piece fields more utf8 none p e = let made : fields ≡ more = cc in subst AreTexts made p
texts_put field.Utf8 piece fields more utf8 none p e = let made : fields ≡ more = cc in subst AreTexts made p
texts_put field.Other piece fields more utf8 none p e = let made : fields ≡ more = cc in subst AreTexts made p

-- ---- the columns of a line

missing_sound : (f : EventField) (place : ℕ) → SoundColumn (record { field = f; place = place; piece = None })
missing_sound f place piece e = absurd (cc)

piece_sound : (f : EventField) (place : ℕ) (p : List ℕ) → IsUtf8 p → All (λ c. is_comma c ≡ false) p → SoundColumn (record { field = f; place = place; piece = Some p })
piece_sound f place p utf8 none piece e =
    let same : p ≡ piece = cc in
    record { utf8 = subst IsUtf8 same utf8; no_comma = λ other. (let P : List ℕ → Type 0 = All (λ c. is_comma c ≡ false) in subst P same none) }

text_sound : (place : ℕ) (p : List ℕ) → IsUtf8 p → SoundColumn (record { field = field.Text; place = place; piece = Some p })
text_sound place p utf8 piece e = let same : p ≡ piece = cc in record { utf8 = subst IsUtf8 same utf8; no_comma = λ other. absurd (other refl) }

columns_sound : (len place : ℕ) (front : List EventField) (pieces : List (List ℕ)) → EachUtf8 pieces → EachPlain pieces → Each SoundColumn (columns_from len place (front ++ (field.Text ∷ [])) pieces)
unfolding columns_from
columns_sound len place [] [] utf8 plain = (missing_sound field.Text len, tt)
columns_sound len place [] (p ∷ ps) utf8 plain = (text_sound place (join_with_byte 44 (p ∷ ps)) (joined_utf8 p ps utf8), tt)
columns_sound len place (f ∷ fs) [] utf8 plain = (missing_sound f len, columns_sound len place fs [] tt tt)
columns_sound len place (f ∷ []) (p ∷ ps) utf8 plain = (piece_sound f place p utf8.0 plain.0, columns_sound len (place + length p + 1) [] ps utf8.1 plain.1)
columns_sound len place (f ∷ (g ∷ gs)) (p ∷ ps) utf8 plain = (piece_sound f place p utf8.0 plain.0, columns_sound len (place + length p + 1) (g ∷ gs) ps utf8.1 plain.1)

-- what a column with a fact of its text was put into
piece_of : (column : Column) (fields more : FieldValues) → column_put column fields ≡ Some more → (piece : List ℕ) × (column.piece ≡ Some piece) × (field_put column.field piece fields ≡ Some more)
piece_of column fields more e =
    elim column.piece as (λ o. column.piece ≡ o → option_and_then (λ piece. field_put column.field piece fields) o ≡ Some more → (piece : List ℕ) × (column.piece ≡ Some piece) × (field_put column.field piece fields ≡ Some more)) [
      | Some piece ↦ λ is put. (piece, is, put)
      | None ↦ λ is put. absurd (cc)
    ] refl e

in_range_keeps : Keeps AreInRange (λ column. Unit {0})
in_range_keeps column fields more unit kept e = let put = piece_of column fields more e in in_range_put column.field put.0 fields more kept put.2

texts_keep : Keeps AreTexts SoundColumn
texts_keep column fields more sound kept e =
    let put = piece_of column fields more e in
    let s = sound put.0 put.1 in
    texts_put column.field put.0 fields more s.utf8 s.no_comma kept put.2

each_unit : (columns : List Column) → Each (λ column. Unit {0}) columns
each_unit [] = tt
each_unit (c ∷ cs) = (tt, each_unit cs)

zero_in_range : AreInRange no_fields
zero_in_range = record {
  order = omega arith;
  layer = zero_number;
  start = record { least = omega (arith, ints); most = omega (arith, ints) };
  last = record { least = omega (arith, ints); most = omega (arith, ints) };
  margin_l = zero_number;
  margin_r = zero_number;
  margin_v = zero_number;
}
  where
    zero_number : IsWithin max_whole (pos 0)
    zero_number = (omega (arith, ints), omega (arith, ints))

pub nothing_is_name : IsName []
unfolding trimmed past_blanks before_blanks
nothing_is_name = record { utf8 = IsUtf8-nil; no_comma = All-nil (λ c. is_comma c ≡ false); bare = refl }

-- the numbers and times of each line are in their ranges
pub fields_in_range : (format : List EventField) (line : List ℕ) (fields : FieldValues) → examined (columns_of format line) no_fields ≡ Ok fields → AreInRange fields
fields_in_range format line fields e = examined_keeps AreInRange (λ column. Unit {0}) in_range_keeps (columns_of format line) no_fields fields (each_unit (columns_of format line)) zero_in_range e

-- the texts of a line in UTF-8, whose last field is Text
pub fields_are_texts : (front : List EventField) (line : List ℕ) (fields : FieldValues) → IsUtf8 line → examined (columns_of (front ++ (field.Text ∷ [])) line) no_fields ≡ Ok fields → AreTexts fields
fields_are_texts front line fields utf8 e =
    examined_keeps AreTexts SoundColumn texts_keep (columns_of (front ++ (field.Text ∷ [])) line) no_fields fields
    (columns_sound (length line) 0 front (pieces_of line) (pieces_utf8 line utf8) (pieces_plain line))
    (record { style = nothing_is_name; name = nothing_is_name; effect = nothing_is_name; text = IsUtf8-nil }) e

-- ---- the steps of reading a chunk

abbrev pub chunk_said : List ℕ → Result FieldValues ChunkRefusal
chunk_said bytes = examined (columns_of chunk_format bytes) no_fields

pub chunk_not_utf8 : (bytes : List ℕ) (start duration : ℤ) (n : ℕ) → (IsUtf8 bytes → ⊥) → n ≡ utf8_valid_len bytes → event_of bytes start duration ≡ Err (Malformed field.Utf8 n)
unfolding event_of
chunk_not_utf8 bytes start duration n wrong len =
    elim (is_utf8 bytes) as (λ b. is_utf8 bytes ≡ b → cond b (with_time (length bytes) start duration (chunk_said bytes)) (Err (Malformed field.Utf8 (utf8_valid_len bytes))) ≡ Err (Malformed field.Utf8 n)) [
      | true ↦ λ e. absurd (wrong (IsUtf8-from_is_utf8 bytes e))
      | false ↦ λ e. ap (λ z. Err (Malformed field.Utf8 z)) (sym len)
    ] refl

chunk_utf8 : (bytes : List ℕ) (start duration : ℤ) → IsUtf8 bytes → event_of bytes start duration ≡ with_time (length bytes) start duration (chunk_said bytes)
unfolding event_of
chunk_utf8 bytes start duration utf8 =
    ap (λ b. cond b (with_time (length bytes) start duration (chunk_said bytes)) (Err (Malformed field.Utf8 (utf8_valid_len bytes)))) (is_utf8-from_IsUtf8 bytes utf8)

pub chunk_field_refused : (bytes : List ℕ) (start duration : ℤ) (refusal : ChunkRefusal) → IsUtf8 bytes → Reads (Err refusal) (chunk_said bytes) → IsChunkAnswer {Value = Event} (Err refusal) (event_of bytes start duration)
chunk_field_refused bytes start duration (Malformed f place) utf8 said = chunk_utf8 bytes start duration utf8 ∙ ap (with_time (length bytes) start duration) said
chunk_field_refused bytes start duration OutOfMemory utf8 said = tt

pub chunk_timed : (bytes : List ℕ) (start duration : ℤ) (fields : FieldValues) → IsUtf8 bytes → chunk_said bytes ≡ Ok fields → event_of bytes start duration ≡ timed (length bytes) start duration fields
chunk_timed bytes start duration fields utf8 said = chunk_utf8 bytes start duration utf8 ∙ ap (with_time (length bytes) start duration) said

pub timed_start : (len : ℕ) (start duration : ℤ) (fields : FieldValues) → is_time start ≡ false → timed len start duration fields ≡ Err (Malformed field.Start len)
timed_start len start duration fields e =
    ap (λ b. cond (not b) (Err (Malformed field.Start len)) (cond (not (is_time duration)) (Err (Malformed field.Duration len)) (Ok (event_at start duration fields)))) e

pub timed_duration : (len : ℕ) (start duration : ℤ) (fields : FieldValues) → is_time start ≡ true → is_time duration ≡ false → timed len start duration fields ≡ Err (Malformed field.Duration len)
timed_duration len start duration fields e f =
    ap (λ b. cond (not b) (Err (Malformed field.Start len)) (cond (not (is_time duration)) (Err (Malformed field.Duration len)) (Ok (event_at start duration fields)))) e
    ∙ ap (λ b. cond (not b) (Err (Malformed field.Duration len)) (Ok (event_at start duration fields))) f

pub timed_ok : (len : ℕ) (start duration : ℤ) (fields : FieldValues) → is_time start ≡ true → is_time duration ≡ true → timed len start duration fields ≡ Ok (event_at start duration fields)
timed_ok len start duration fields e f =
    ap (λ b. cond (not b) (Err (Malformed field.Start len)) (cond (not (is_time duration)) (Err (Malformed field.Duration len)) (Ok (event_at start duration fields)))) e
    ∙ ap (λ b. cond (not b) (Err (Malformed field.Duration len)) (Ok (event_at start duration fields))) f

-- the texts of a chunk are UTF-8
pub chunk_texts : (bytes : List ℕ) (fields : FieldValues) → IsUtf8 bytes → chunk_said bytes ≡ Ok fields → AreTexts fields
chunk_texts bytes fields utf8 said =
    fields_are_texts (field.ReadOrder ∷ field.Layer ∷ field.Style ∷ field.Name ∷ field.MarginL ∷ field.MarginR ∷ field.MarginV ∷ field.Effect ∷ []) bytes fields utf8 said

pub chunk_have_utf8 : (bytes : List ℕ) (fields : FieldValues) → IsUtf8 bytes → chunk_said bytes ≡ Ok fields → HaveUtf8 fields
chunk_have_utf8 bytes fields utf8 said =
    let t = chunk_texts bytes fields utf8 said in
    record { style = t.style.utf8; name = t.name.utf8; effect = t.effect.utf8; text = t.text }

-- ---- the event of a line

pub event_refused : (format : List EventField) (i : ℕ) (line : List ℕ) (refusal : ChunkRefusal) → Reads (Err refusal) (examined (columns_of format line) no_fields) → IsChunkAnswer {Value = Event} (Err refusal) (line_event format i line)
unfolding line_event
event_refused format i line (Malformed f place) said = ap (line_made i) said
event_refused format i line OutOfMemory said = tt

pub fault_read : (format : List EventField) (i : ℕ) (line : List ℕ) (refusal : ChunkRefusal) → Reads (Err refusal) (examined (columns_of format line) no_fields) → fault_of (Err refusal) ≡ fault_of (line_event format i line)
unfolding line_event
fault_read format i line (Malformed f place) said = sym (ap (λ z. fault_of (line_made i z)) said)
fault_read format i line OutOfMemory said = absurd said

pub no_fault : (format : List EventField) (i : ℕ) (line : List ℕ) (fields : FieldValues) → examined (columns_of format line) no_fields ≡ Ok fields → None ≡ fault_of (line_event format i line)
unfolding line_event
no_fault format i line fields said = sym (ap (λ z. fault_of (line_made i z)) said)

-- ---- the chunk of a line

pub line_refused : (format : List EventField) (i : ℕ) (line : List ℕ) (refusal : ChunkRefusal) → Reads (Err refusal) (examined (columns_of format line) no_fields) → IsChunkAnswer {Value = Chunk} (Err refusal) (chunked (line_event format i line))
unfolding line_event
line_refused format i line (Malformed f place) said = ap (λ z. chunked (line_made i z)) said
line_refused format i line OutOfMemory said = tt

pub line_said : (format : List EventField) (i : ℕ) (line : List ℕ) (fields : FieldValues) → examined (columns_of format line) no_fields ≡ Ok fields → line_event format i line ≡ line_made i (Ok fields)
unfolding line_event
line_said format i line fields said = ap (line_made i) said

abbrev pub chunk_ok : List ℕ → ℤ → ℤ → Result Chunk ChunkRefusal
chunk_ok bytes start duration = Ok (record { bytes = bytes; start = start; duration = duration })

pub same_chunk : (bytes also : List ℕ) (start begin duration lasts : ℤ) → bytes ≡ also → start ≡ begin → duration ≡ lasts → chunk_ok bytes start duration ≡ chunk_ok also begin lasts
same_chunk bytes also start begin duration lasts b s d = ap (λ z. chunk_ok z start duration) b ∙ ap (λ z. chunk_ok also z duration) s ∙ ap (chunk_ok also begin) d
