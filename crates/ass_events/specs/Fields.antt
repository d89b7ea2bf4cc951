-- Public: the fields of a line: what each says, and the first that can't be read.
use Rattle.std.specs.Prelude.{ℕ, ◌+◌, ℤ, pos, List, [], ◌∷◌, length, Option, Some, None, option_and_then, Result, Ok, Err}
use Rattle.std.specs.Option.{option_map_or}
use Rattle.std.specs.Str.{IsUtf8}
use Rattle.std.specs.List.{join_with_byte}
use Rattle.ass_num.specs.Bytes.{comma}
use Rattle.ass_script.specs.declared.script.EventField.{EventField}
use Rattle.ass_script.specs.declared.script.EventField.TheVariants as field
use Rattle.ass_events.specs.declared.event.ChunkRefusal.{ChunkRefusal}
use Rattle.ass_events.specs.declared.event.ChunkRefusal.TheVariants.{Malformed}
use Rattle.ass_num.specs.Blanks.{trimmed}
use Rattle.ass_events.specs.Cuts.{pieces_of}
use Rattle.ass_events.specs.Numbers.{order_of, whole_or_zero, instant_of}

-- what the fields of a line say, in milliseconds and script pixels
pub record FieldValues : Type 0 where
  pub order : ℕ
  pub layer : ℤ
  pub start : ℤ
  pub «end» : ℤ
  pub style : List ℕ
  pub name : List ℕ
  pub margin_l : ℤ
  pub margin_r : ℤ
  pub margin_v : ℤ
  pub effect : List ℕ
  pub text : List ℕ

-- a field that isn't there is empty, and an empty number or time is 0
abbrev pub no_fields : FieldValues
no_fields = record {
  order = 0;
  layer = pos 0;
  start = pos 0;
  end = pos 0;
  style = [];
  name = [];
  margin_l = pos 0;
  margin_r = pos 0;
  margin_v = pos 0;
  effect = [];
  text = [];
}

-- A field of a line: which one, the place where it begins, and what stands there. Where its comma is missing nothing
-- does, and its place is the length of the line.
pub record Column : Type 0 where
  pub field : EventField
  pub place : ℕ
  pub piece : Option (List ℕ)

-- the columns of a line that is cut at all its commas, from a place on; the last column has the rest with its commas
unfoldable pub columns_from : ℕ → ℕ → List EventField → List (List ℕ) → List Column
columns_from len place [] pieces = []
columns_from len place (f ∷ format) [] = record { field = f; place = len; piece = None } ∷ columns_from len place format []
columns_from len place (f ∷ []) (p ∷ pieces) = record { field = f; place = place; piece = Some (join_with_byte comma (p ∷ pieces)) } ∷ []
columns_from len place (f ∷ (g ∷ format)) (p ∷ pieces) = record { field = f; place = place; piece = Some p } ∷ columns_from len (place + length p + 1) (g ∷ format) pieces

-- the columns of a line, one for each field of its format
abbrev pub columns_of : List EventField → List ℕ → List Column
columns_of format line = columns_from (length line) 0 format (pieces_of line)

-- the fields with one more, where it can be read
unfoldable pub field_put : EventField → List ℕ → FieldValues → Option FieldValues
field_put field.ReadOrder piece fields = option_and_then (λ n. Some (record fields { order = n })) (order_of piece)
field_put field.Layer piece fields = option_and_then (λ n. Some (record fields { layer = n })) (whole_or_zero piece)
field_put field.Start piece fields = option_and_then (λ t. Some (record fields { start = t })) (instant_of piece)
field_put field.End piece fields = option_and_then (λ t. Some (record fields { end = t })) (instant_of piece)
field_put field.Duration piece fields = Some fields
field_put field.Style piece fields = Some (record fields { style = trimmed piece })
field_put field.Name piece fields = Some (record fields { name = trimmed piece })
field_put field.MarginL piece fields = option_and_then (λ n. Some (record fields { margin_l = n })) (whole_or_zero piece)
field_put field.MarginR piece fields = option_and_then (λ n. Some (record fields { margin_r = n })) (whole_or_zero piece)
field_put field.MarginV piece fields = option_and_then (λ n. Some (record fields { margin_v = n })) (whole_or_zero piece)
field_put field.Effect piece fields = Some (record fields { effect = trimmed piece })
field_put field.Text piece fields = Some (record fields { text = piece })
field_put field.Utf8 piece fields = Some fields
field_put field.Other piece fields = Some fields

abbrev pub column_put : Column → FieldValues → Option FieldValues
column_put column fields = option_and_then (λ piece. field_put column.field piece fields) column.piece

-- what the columns say, from the first to the last, or the first that can't be read or isn't there, with its place
unfoldable pub examined : List Column → FieldValues → Result FieldValues ChunkRefusal
examined [] fields = Ok fields
examined (column ∷ columns) fields = option_map_or (examined columns) (column_put column fields) (Err (Malformed column.field column.place))

-- the texts among the fields are UTF-8
pub record HaveUtf8 (fields : FieldValues) : Type 0 where
  pub style : IsUtf8 fields.style
  pub name : IsUtf8 fields.name
  pub effect : IsUtf8 fields.effect
  pub text : IsUtf8 fields.text
