-- Events are written and read back.
use Rattle.std.proofs.Common.{◌≡◌, ℕ, suc, ◌-◌, ◌+◌, ◌<◌, ◌≤◌, ◌^◌, Bool, true, false, not, cond, List, [], ◌∷◌, ◌++◌, length, get_or, Some, Result, Ok, Err, ℤ, pos, negsuc, refl, sym, ap, ◌∙◌, subst, arith}
use Rattle.std.specs.Prelude.{option_and_then, slice_get, IfOk}
use Rattle.std.specs.Option.{option_map_or}
use Rattle.std.specs.Fmt.{decimal, signed_decimal}
use Rattle.std.specs.Str.{IsUtf8, is_utf8}
use Rattle.std.specs.Str.Lossy.{utf8_valid_len}
use Rattle.std.specs.List.{All, join_with_byte}
use Rattle.std.proofs.lemmas.Fmt.{IsAscii-decimal, IsAscii-signed}
use lib.Signed.{mag}
use Rattle.std.proofs.lemmas.Int.{ints}
use Rattle.std.proofs.lemmas.Str.{IsUtf8-from_is_utf8, IsUtf8-from_ascii}
use Rattle.std.proofs.lemmas.List.Elements.{All-get_or}
use Rattle.std.proofs.lemmas.List.Splits.{slice_split_at, length-slice_split, join_with_byte-slice_split}
use Rattle.ass_num.specs.Limits.{IsWithin, max_whole}
use Rattle.ass_script.specs.declared.script.EventField.{EventField}
use Rattle.ass_script.specs.declared.script.EventField.TheVariants as field
use Rattle.ass_events.specs.declared.event.Event.{Event}
use Rattle.ass_events.specs.declared.event.ChunkRefusal.{ChunkRefusal}
use Rattle.ass_events.specs.declared.event.ChunkRefusal.TheVariants.{Malformed}
use Rattle.ass_num.specs.Blanks.{trimmed}
use Rattle.ass_script.specs.Words.{is_comma}
use Rattle.ass_script.specs.Fields.{is_text, ends_in_text}
use Rattle.ass_script.specs.Scripts.{ScriptValue}
use Rattle.ass_script.specs.Ranges.{IsScript}
use Rattle.ass_events.specs.Cuts.{pieces_of}
use Rattle.ass_events.specs.Numbers.{order_of, whole_or_zero}
use Rattle.ass_events.specs.Fields.{FieldValues, no_fields, columns_from, columns_of, field_put, examined, HaveUtf8}
use Rattle.ass_events.specs.Events.{IsChunkAnswer, chunk_format, is_time, event_at, timed, with_time, event_of, chunk_bytes, duration_between, line_made, line_event, event_of_line}
use Rattle.ass_events.specs.Ranges.{IsEvent}
use Rattle.ass_events.proofs.NumberLemmas.{IsLineTime, order-decimal, number-signed_decimal, decimal_no_comma, signed_no_comma}
use Rattle.ass_events.proofs.PieceLemmas.{joined_utf8}
use Rattle.ass_events.proofs.FieldLemmas.{examined_some}
use Rattle.ass_events.proofs.EventLemmas.{AreInRange, AreTexts, chunk_said, fields_in_range, fields_are_texts, chunk_texts, chunk_timed, timed_ok}

-- ---- the events of chunks

event_is : (start duration : ℤ) (fields : FieldValues) → AreInRange fields → AreTexts fields → is_time start ≡ true → is_time duration ≡ true → IsEvent (event_at start duration fields)
event_is start duration fields r t s d = record {
  order = r.order;
  layer = r.layer;
  style = t.style;
  name = t.name;
  margin_l = r.margin_l;
  margin_r = r.margin_r;
  margin_v = r.margin_v;
  effect = t.effect;
  text = t.text;
  start = s;
  duration = d;
}

timed_event : (len : ℕ) (start duration : ℤ) (fields : FieldValues) (event : Event) → AreInRange fields → AreTexts fields → timed len start duration fields ≡ Ok event → IsEvent event
timed_event len start duration fields event r t e = cases (is_time start) (is_time duration) refl refl e
  where
    cases : (a b : Bool) → is_time start ≡ a → is_time duration ≡ b → cond (not a) (Err (Malformed field.Start len)) (cond (not b) (Err (Malformed field.Duration len)) (Ok (event_at start duration fields))) ≡ Ok event → IsEvent event
    cases true true ea eb e = let same : event_at start duration fields ≡ event = cc in subst IsEvent same (event_is start duration fields r t ea eb)
    cases true false ea eb e = absurd (cc)
    cases false b ea eb e = absurd (cc)

pub chunk_gives_event : (bytes : List ℕ) (start duration : ℤ) (event : Event) → event_of bytes start duration ≡ Ok event → IsEvent event
unfolding event_of
chunk_gives_event bytes start duration event e = cases (is_utf8 bytes) refl e
  where
    said : IsUtf8 bytes → (r : Result FieldValues ChunkRefusal) → chunk_said bytes ≡ r → with_time (length bytes) start duration r ≡ Ok event → IsEvent event
    said utf8 (Ok fields) is e = timed_event (length bytes) start duration fields event (fields_in_range chunk_format bytes fields is) (chunk_texts bytes fields utf8 is) e
    said utf8 (Err refusal) is e = absurd (cc)

    cases : (b : Bool) → is_utf8 bytes ≡ b → cond b (with_time (length bytes) start duration (chunk_said bytes)) (Err (Malformed field.Utf8 (utf8_valid_len bytes))) ≡ Ok event → IsEvent event
    cases true is e = said (IsUtf8-from_is_utf8 bytes is) (chunk_said bytes) refl e
    cases false is e = absurd (cc)

-- ---- the events of lines

-- the time between two instants is one that may be
between_is_time : (start last : ℤ) → IsLineTime start → IsLineTime last → is_time (duration_between start last) ≡ true
between_is_time start last s l = grind (arith, ints, s.least, s.most, l.least, l.most)

instant_is_time : (t : ℤ) → IsLineTime t → is_time t ≡ true
instant_is_time t i = grind (arith, ints, i.least, i.most)

-- the last field of the format is Text
abbrev EndsInText : List EventField → Type 0
EndsInText format = (front : List EventField) × (format ≡ front ++ (field.Text ∷ []))

only_text : (f : EventField) → is_text f ≡ true → f ≡ field.Text
only_text field.Text e = refl
only_text _ e = absurd (cc)

text_ends : (format : List EventField) → ends_in_text format ≡ true → EndsInText format
text_ends [] e = absurd (cc)
text_ends (f ∷ []) e = ([], ap (λ z. z ∷ []) (only_text f e))
text_ends (f ∷ (g ∷ gs)) e =
    let here : length (f ∷ (g ∷ gs)) - 1 ≡ suc (length gs) = omega arith in
    let there : length (g ∷ gs) - 1 ≡ length gs = omega arith in
    let rest = text_ends (g ∷ gs) (ap (λ n. option_map_or is_text (slice_get (g ∷ gs) n) false) there ∙ sym (ap (λ n. option_map_or is_text (slice_get (f ∷ (g ∷ gs)) n) false) here) ∙ e) in
    (f ∷ rest.0, ap (λ z. f ∷ z) rest.1)

line_is_event : (format : List EventField) (i : ℕ) (line : List ℕ) (event : Event) → EndsInText format → i ≤ max_whole → IsUtf8 line → line_event format i line ≡ Ok event → IsEvent event
unfolding line_event
line_is_event format i line event ends small utf8 e = cases (examined (columns_of format line) no_fields) refl e
  where
    cases : (r : Result FieldValues ChunkRefusal) → examined (columns_of format line) no_fields ≡ r → line_made i r ≡ Ok event → IsEvent event
    cases (Err refusal) is e = absurd (cc)
    cases (Ok fields) is e =
        let r = fields_in_range format line fields is in
        let P : List EventField → Type 0 = λ z. examined (columns_of z line) no_fields ≡ Ok fields in
        let t = fields_are_texts ends.0 line fields utf8 (subst P ends.1 is) in
        let more : FieldValues = record fields { order = i } in
        let same : event_at fields.start (duration_between fields.start fields.end) more ≡ event = cc in
        subst IsEvent same (event_is fields.start (duration_between fields.start fields.end) more
        (record { order = small; layer = r.layer; start = r.start; last = r.last; margin_l = r.margin_l; margin_r = r.margin_r; margin_v = r.margin_v })
        (record { style = t.style; name = t.name; effect = t.effect; text = t.text })
        (instant_is_time fields.start r.start) (between_is_time fields.start fields.end r.start r.last))

-- the texts of a line in UTF-8 are
pub line_have_utf8 : (format : List EventField) (line : List ℕ) (fields : FieldValues) → ends_in_text format ≡ true → IsUtf8 line → examined (columns_of format line) no_fields ≡ Ok fields → HaveUtf8 fields
line_have_utf8 format line fields text utf8 e =
    let ends = text_ends format text in
    let P : List EventField → Type 0 = λ z. examined (columns_of z line) no_fields ≡ Ok fields in
    let t = fields_are_texts ends.0 line fields utf8 (subst P ends.1 e) in
    record { style = t.style.utf8; name = t.name.utf8; effect = t.effect.utf8; text = t.text }

pub line_gives_event : (script : ScriptValue) (i : ℕ) (event : Event) → IsScript script → i < length script.lines → event_of_line script i ≡ Ok event → IsEvent event
line_gives_event script i event is inside e =
    line_is_event script.format i (get_or script.lines i []) event (text_ends script.format is.format) (omega (arith, is.few_lines)) (All-get_or IsUtf8 script.lines i [] inside is.lines) e

-- a call that gives the event of such a line gives one within the ranges of events
pub answer_is_event : (script : ScriptValue) (i : ℕ) (r : Result Event ChunkRefusal) → IsScript script → i < length script.lines → IsChunkAnswer r (event_of_line script i) → IfOk r IsEvent
answer_is_event script i (Ok event) is inside answer = line_gives_event script i event is inside answer
answer_is_event script i (Err refusal) is inside answer = tt

-- ---- written and read back

put_order : (n : ℕ) (piece : List ℕ) (fields : FieldValues) → order_of piece ≡ Some n → field_put field.ReadOrder piece fields ≡ Some (record fields { order = n })
unfolding field_put
put_order n piece fields e = ap (option_and_then (λ n. Some (record fields { order = n }))) e

pub put_layer : (n : ℤ) (piece : List ℕ) (fields : FieldValues) → whole_or_zero piece ≡ Some n → field_put field.Layer piece fields ≡ Some (record fields { layer = n })
unfolding field_put
put_layer n piece fields e = ap (option_and_then (λ n. Some (record fields { layer = n }))) e

pub put_left : (n : ℤ) (piece : List ℕ) (fields : FieldValues) → whole_or_zero piece ≡ Some n → field_put field.MarginL piece fields ≡ Some (record fields { margin_l = n })
unfolding field_put
put_left n piece fields e = ap (option_and_then (λ n. Some (record fields { margin_l = n }))) e

pub put_right : (n : ℤ) (piece : List ℕ) (fields : FieldValues) → whole_or_zero piece ≡ Some n → field_put field.MarginR piece fields ≡ Some (record fields { margin_r = n })
unfolding field_put
put_right n piece fields e = ap (option_and_then (λ n. Some (record fields { margin_r = n }))) e

pub put_vertical : (n : ℤ) (piece : List ℕ) (fields : FieldValues) → whole_or_zero piece ≡ Some n → field_put field.MarginV piece fields ≡ Some (record fields { margin_v = n })
unfolding field_put
put_vertical n piece fields e = ap (option_and_then (λ n. Some (record fields { margin_v = n }))) e

pub put_style : (piece : List ℕ) (fields : FieldValues) → trimmed piece ≡ piece → field_put field.Style piece fields ≡ Some (record fields { style = piece })
unfolding field_put
put_style piece fields e = ap (λ z. Some (record fields { style = z })) e

pub put_name : (piece : List ℕ) (fields : FieldValues) → trimmed piece ≡ piece → field_put field.Name piece fields ≡ Some (record fields { name = piece })
unfolding field_put
put_name piece fields e = ap (λ z. Some (record fields { name = z })) e

pub put_effect : (piece : List ℕ) (fields : FieldValues) → trimmed piece ≡ piece → field_put field.Effect piece fields ≡ Some (record fields { effect = piece })
unfolding field_put
put_effect piece fields e = ap (λ z. Some (record fields { effect = z })) e

-- one column more is read
pub read_on : (len place : ℕ) (f g : EventField) (format : List EventField) (p : List ℕ) (pieces : List (List ℕ)) (fields more : FieldValues) → field_put f p fields ≡ Some more →
    examined (columns_from len place (f ∷ (g ∷ format)) (p ∷ pieces)) fields ≡ examined (columns_from len (place + length p + 1) (g ∷ format) pieces) more
unfolding columns_from
read_on len place f g format p pieces fields more put =
    examined_some (record { field = f; place = place; piece = Some p }) (columns_from len (place + length p + 1) (g ∷ format) pieces) fields more put

-- the text with its commas
pub read_text : (len place : ℕ) (text : List ℕ) (fields : FieldValues) → examined (columns_from len place (field.Text ∷ []) (pieces_of text)) fields ≡ Ok (record fields { text = text })
unfolding columns_from examined field_put
read_text len place text fields = cases (pieces_of text) refl
  where
    cases : (pieces : List (List ℕ)) → pieces_of text ≡ pieces → examined (columns_from len place (field.Text ∷ []) pieces) fields ≡ Ok (record fields { text = text })
    cases [] e = absurd (omega (arith, ap length e, length-slice_split is_comma text))
    cases (p ∷ ps) e = ap (λ z. Ok (record fields { text = z })) (ap (join_with_byte 44) (sym e) ∙ join_with_byte-slice_split 44 text)

module _ (event : Event) (is : IsEvent event) where
  -- the pieces of its chunk
  cut : (xs ys : List ℕ) → All (λ c. is_comma c ≡ false) xs → pieces_of (xs ++ (44 ∷ ys)) ≡ xs ∷ pieces_of ys
  cut xs ys none = slice_split_at is_comma xs 44 ys none refl

  written_pieces : pieces_of (chunk_bytes event)
      ≡ decimal event.order ∷ (signed_decimal event.layer ∷ (event.style ∷ (event.name ∷ (signed_decimal event.margin_l ∷ (signed_decimal event.margin_r ∷ (signed_decimal event.margin_v ∷ (event.effect ∷ pieces_of event.text)))))))
  written_pieces =
      let order = decimal event.order in
      let layer = signed_decimal event.layer in
      let l = signed_decimal event.margin_l in
      let r = signed_decimal event.margin_r in
      let v = signed_decimal event.margin_v in
      let g = event.effect ++ (44 ∷ event.text) in
      let f = v ++ (44 ∷ g) in
      let e = r ++ (44 ∷ f) in
      let d = l ++ (44 ∷ e) in
      let c = event.name ++ (44 ∷ d) in
      let b = event.style ++ (44 ∷ c) in
      let a = layer ++ (44 ∷ b) in
      cut order a (decimal_no_comma event.order is.order)
      ∙ ap (λ z. order ∷ z) (cut layer b (signed_no_comma event.layer is.layer)
      ∙ ap (λ z. layer ∷ z) (cut event.style c is.style.no_comma
      ∙ ap (λ z. event.style ∷ z) (cut event.name d is.name.no_comma
      ∙ ap (λ z. event.name ∷ z) (cut l e (signed_no_comma event.margin_l is.margin_l)
      ∙ ap (λ z. l ∷ z) (cut r f (signed_no_comma event.margin_r is.margin_r)
      ∙ ap (λ z. r ∷ z) (cut v g (signed_no_comma event.margin_v is.margin_v)
      ∙ ap (λ z. v ∷ z) (cut event.effect event.text is.effect.no_comma)))))))

  abbrev written_fields : FieldValues
  written_fields = record {
    order = event.order;
    layer = event.layer;
    start = pos 0;
    end = pos 0;
    style = event.style;
    name = event.name;
    margin_l = event.margin_l;
    margin_r = event.margin_r;
    margin_v = event.margin_v;
    effect = event.effect;
    text = event.text;
  }

  written_said : chunk_said (chunk_bytes event) ≡ Ok written_fields
  written_said =
      let len = length (chunk_bytes event) in
      let a : FieldValues = record no_fields { order = event.order } in
      let b : FieldValues = record a { layer = event.layer } in
      let c : FieldValues = record b { style = event.style } in
      let d : FieldValues = record c { name = event.name } in
      let e : FieldValues = record d { margin_l = event.margin_l } in
      let f : FieldValues = record e { margin_r = event.margin_r } in
      let g : FieldValues = record f { margin_v = event.margin_v } in
      let h : FieldValues = record g { effect = event.effect } in
      ap (λ z. examined (columns_from len 0 chunk_format z) no_fields) written_pieces
      ∙ read_on len _ field.ReadOrder field.Layer _ (decimal event.order) _ no_fields a (put_order event.order (decimal event.order) no_fields (order-decimal event.order is.order))
      ∙ read_on len _ field.Layer field.Style _ (signed_decimal event.layer) _ a b (put_layer event.layer (signed_decimal event.layer) a (number-signed_decimal event.layer is.layer))
      ∙ read_on len _ field.Style field.Name _ event.style _ b c (put_style event.style b is.style.bare)
      ∙ read_on len _ field.Name field.MarginL _ event.name _ c d (put_name event.name c is.name.bare)
      ∙ read_on len _ field.MarginL field.MarginR _ (signed_decimal event.margin_l) _ d e (put_left event.margin_l (signed_decimal event.margin_l) d (number-signed_decimal event.margin_l is.margin_l))
      ∙ read_on len _ field.MarginR field.MarginV _ (signed_decimal event.margin_r) _ e f (put_right event.margin_r (signed_decimal event.margin_r) e (number-signed_decimal event.margin_r is.margin_r))
      ∙ read_on len _ field.MarginV field.Effect _ (signed_decimal event.margin_v) _ f g (put_vertical event.margin_v (signed_decimal event.margin_v) f (number-signed_decimal event.margin_v is.margin_v))
      ∙ read_on len _ field.Effect field.Text _ event.effect _ g h (put_effect event.effect g is.effect.bare)
      ∙ read_text len _ event.text h

  decimal_utf8 : (n : ℕ) → n ≤ max_whole → IsUtf8 (decimal n)
  decimal_utf8 n small = IsUtf8-from_ascii (decimal n) (IsAscii-decimal n (omega arith))

  signed_utf8 : (z : ℤ) → IsWithin max_whole z → IsUtf8 (signed_decimal z)
  signed_utf8 z small = IsUtf8-from_ascii (signed_decimal z) (IsAscii-signed z (mag_small z small))
    where
      mag_small : (z : ℤ) → IsWithin max_whole z → mag z < 2 ^ 63
      mag_small (pos n) small = omega (arith, ints, small.1)
      mag_small (negsuc n) small = omega (arith, ints, small.0)

  written_utf8 : IsUtf8 (chunk_bytes event)
  written_utf8 =
      joined_utf8 (decimal event.order)
      (signed_decimal event.layer ∷ event.style ∷ event.name ∷ signed_decimal event.margin_l ∷ signed_decimal event.margin_r ∷ signed_decimal event.margin_v ∷ event.effect ∷ event.text ∷ []) (
        decimal_utf8 event.order is.order,
        (
          signed_utf8 event.layer is.layer,
          (
            is.style.utf8,
            (
              is.name.utf8,
              (
                signed_utf8 event.margin_l is.margin_l,
                (signed_utf8 event.margin_r is.margin_r, (signed_utf8 event.margin_v is.margin_v, (is.effect.utf8, (is.text, tt)))),
              ),
            ),
          ),
        ),
      )

  pub read_back : event_of (chunk_bytes event) event.start event.duration ≡ Ok event
  read_back =
      chunk_timed (chunk_bytes event) event.start event.duration written_fields written_utf8 written_said
      ∙ timed_ok (length (chunk_bytes event)) event.start event.duration written_fields is.start is.duration
