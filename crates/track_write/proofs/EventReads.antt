-- An event is read back from its line.
use Rattle.std.proofs.Common.{◌≡◌, ℕ, ◌%◌, ◌≤◌, true, false, List, [], ◌∷◌, ◌++◌, length, Some, Ok, ℤ, pos, ◌+ℤ◌, ◌-ℤ◌, int_le, refl, sym, ap, ◌∙◌, arith}
use Rattle.std.specs.Prelude.{option_and_then}
use Rattle.std.specs.Fmt.{signed_decimal}
use Rattle.std.specs.Int.RustNames.{unsigned_abs}
use Rattle.std.specs.List.{All}
use Rattle.std.specs.Int.{int_max}
use Rattle.std.proofs.lemmas.Bool.{and_parts}
use Rattle.std.proofs.lemmas.Int.{ints}
use Rattle.std.proofs.lemmas.List.Elements.{All-cons}
use Rattle.std.proofs.lemmas.List.Splits.{slice_split_at}
use Rattle.ass_num.specs.Limits.{max_instant}
use Rattle.ass_num.proofs.OrderLemmas.{le_is}
use Rattle.ass_script.specs.Fields.{usual_event_fields}
use Rattle.ass_script.specs.Words.{is_comma}
use Rattle.ass_script.specs.declared.lines.Version.TheVariants.{V4Plus}
use Rattle.ass_script.specs.declared.script.EventField.TheVariants as field
use Rattle.ass_events.specs.Cuts.{pieces_of}
use Rattle.ass_events.specs.Events.{is_time, duration_between, line_made, line_event}
use Rattle.ass_events.specs.Fields.{FieldValues, no_fields, columns_from, columns_of, field_put, examined}
use Rattle.ass_events.specs.Numbers.{whole_or_zero, instant_of}
use Rattle.ass_events.specs.Ranges.{IsEvent}
use Rattle.ass_events.specs.declared.event.Event.{Event}
use Rattle.ass_events.proofs.NumberLemmas.{number-signed_decimal}
use Rattle.ass_events.proofs.PieceLemmas.{EachPlain}
use Rattle.track_write.specs.Rows.{row, event_end, event_fields}
use Rattle.track_write.specs.Spelling.{time_text}
use Rattle.track_write.specs.Texts.{max_written_end}
use Rattle.track_write.proofs.Readings.{number_read, instant_read, signed_no_blank, one_blank, not_below}
use Rattle.track_write.proofs.Tokens.{no_comma, signed_tokens, time_tokens}
use Rattle.ass_events.proofs.LawLemmas.{put_layer, put_left, put_right, put_vertical, put_style, put_name, put_effect, read_on, read_text}

-- the pieces of a row whose last field may have commas
front_cut : (fields : List (List ℕ)) (text : List ℕ) → EachPlain fields → pieces_of (row (fields ++ text ∷ [])) ≡ fields ++ pieces_of text
front_cut [] text each = refl
front_cut (f ∷ []) text each = slice_split_at is_comma f 44 text each.0 refl
front_cut (f ∷ (g ∷ gs)) text each = slice_split_at is_comma f 44 (row ((g ∷ gs) ++ text ∷ [])) each.0 refl ∙ ap (λ z. f ∷ z) (front_cut (g ∷ gs) text each.1)

put_start : (n : ℤ) (piece : List ℕ) (fields : FieldValues) → instant_of piece ≡ Some n → field_put field.Start piece fields ≡ Some (record fields { start = n })
unfolding field_put
put_start n piece fields e = ap (option_and_then (λ n. Some (record fields { start = n }))) e

put_end : (n : ℤ) (piece : List ℕ) (fields : FieldValues) → instant_of piece ≡ Some n → field_put field.End piece fields ≡ Some (record fields { end = n })
unfolding field_put
put_end n piece fields e = ap (option_and_then (λ n. Some (record fields { end = n }))) e

-- what is added is left when the start is taken away
length_left : (start duration : ℤ) → is_time duration ≡ true → duration_between start (start +ℤ duration) ≡ duration
length_left start duration is =
    let back : ((start +ℤ duration) -ℤ start) ≡ duration = omega (arith, ints) in
    ap (int_max (pos 0)) back ∙ not_below duration (le_is (pos 0) duration (and_parts (int_le (pos 0) duration) (int_le duration (pos max_instant)) is).0)

-- a time that is written
pub record IsWrittenTime (t : ℤ) : Type 0 where
  pub number : ℕ
  pub value : t ≡ pos number
  pub whole : number % 10 ≡ 0
  pub most : number ≤ max_written_end

time_said : (t : ℤ) → IsWrittenTime t → instant_of (time_text (unsigned_abs t)) ≡ Some t
time_said t is = ap (λ z. instant_of (time_text (unsigned_abs z))) is.value ∙ instant_read is.number is.whole is.most ∙ ap Some (sym is.value)

module _ (event : Event) (is : IsEvent event) (start : IsWrittenTime event.start) (last : IsWrittenTime (event_end event)) where
  abbrev front : List (List ℕ)
  front =
      (32 ∷ signed_decimal event.layer) ∷ time_text (unsigned_abs event.start) ∷ time_text (unsigned_abs (event_end event)) ∷ event.style ∷ event.name
      ∷ signed_decimal event.margin_l ∷ signed_decimal event.margin_r ∷ signed_decimal event.margin_v ∷ event.effect ∷ []

  time_plain : (t : ℤ) → IsWrittenTime t → All (λ c. is_comma c ≡ false) (time_text (unsigned_abs t))
  time_plain t written = no_comma (time_text (unsigned_abs t)) (time_tokens (unsigned_abs t) (omega (arith, ap unsigned_abs written.value, written.most)))

  front_plain : EachPlain front
  front_plain = (
    All-cons (λ c. is_comma c ≡ false) 32 (signed_decimal event.layer) refl (no_comma (signed_decimal event.layer) (signed_tokens event.layer is.layer)),
    (
      time_plain event.start start,
      (
        time_plain (event_end event) last,
        (
          is.style.no_comma,
          (
            is.name.no_comma,
            (
              no_comma (signed_decimal event.margin_l) (signed_tokens event.margin_l is.margin_l),
              (
                no_comma (signed_decimal event.margin_r) (signed_tokens event.margin_r is.margin_r),
                (no_comma (signed_decimal event.margin_v) (signed_tokens event.margin_v is.margin_v), (is.effect.no_comma, tt)),
              ),
            ),
          ),
        ),
      ),
    ),
  )

  abbrev fields_said : FieldValues
  fields_said = record {
    order = 0;
    layer = event.layer;
    start = event.start;
    end = event_end event;
    style = event.style;
    name = event.name;
    margin_l = event.margin_l;
    margin_r = event.margin_r;
    margin_v = event.margin_v;
    effect = event.effect;
    text = event.text;
  }

  layer_said : whole_or_zero (32 ∷ signed_decimal event.layer) ≡ Some event.layer
  layer_said = number_read (32 ∷ []) event.layer one_blank is.layer (signed_no_blank event.layer is.layer)

  line_said : examined (columns_of (usual_event_fields V4Plus) (32 ∷ row (event_fields event))) no_fields ≡ Ok fields_said
  line_said =
      let len = length (32 ∷ row (event_fields event)) in
      let a : FieldValues = record no_fields { layer = event.layer } in
      let b : FieldValues = record a { start = event.start } in
      let c : FieldValues = record b { end = event_end event } in
      let d : FieldValues = record c { style = event.style } in
      let e : FieldValues = record d { name = event.name } in
      let f : FieldValues = record e { margin_l = event.margin_l } in
      let g : FieldValues = record f { margin_r = event.margin_r } in
      let h : FieldValues = record g { margin_v = event.margin_v } in
      let i : FieldValues = record h { effect = event.effect } in
      ap (λ z. examined (columns_from len 0 (usual_event_fields V4Plus) z) no_fields) (front_cut front event.text front_plain)
      ∙ read_on len _ field.Layer field.Start _ (32 ∷ signed_decimal event.layer) _ no_fields a (put_layer event.layer (32 ∷ signed_decimal event.layer) no_fields layer_said)
      ∙ read_on len _ field.Start field.End _ (time_text (unsigned_abs event.start)) _ a b (put_start event.start (time_text (unsigned_abs event.start)) a (time_said event.start start))
      ∙ read_on len _ field.End field.Style _ (time_text (unsigned_abs (event_end event))) _ b c (put_end (event_end event) (time_text (unsigned_abs (event_end event))) b (time_said (event_end event) last))
      ∙ read_on len _ field.Style field.Name _ event.style _ c d (put_style event.style c is.style.bare)
      ∙ read_on len _ field.Name field.MarginL _ event.name _ d e (put_name event.name d is.name.bare)
      ∙ read_on len _ field.MarginL field.MarginR _ (signed_decimal event.margin_l) _ e f (put_left event.margin_l (signed_decimal event.margin_l) e (number-signed_decimal event.margin_l is.margin_l))
      ∙ read_on len _ field.MarginR field.MarginV _ (signed_decimal event.margin_r) _ f g (put_right event.margin_r (signed_decimal event.margin_r) f (number-signed_decimal event.margin_r is.margin_r))
      ∙ read_on len _ field.MarginV field.Effect _ (signed_decimal event.margin_v) _ g h (put_vertical event.margin_v (signed_decimal event.margin_v) g (number-signed_decimal event.margin_v is.margin_v))
      ∙ read_on len _ field.Effect field.Text _ event.effect _ h i (put_effect event.effect h is.effect.bare)
      ∙ read_text len _ event.text i

  -- the time between the two ends
  duration_said : duration_between event.start (event_end event) ≡ event.duration
  duration_said = length_left event.start event.duration is.duration

  pub event_read : (i : ℕ) → line_event (usual_event_fields V4Plus) i (32 ∷ row (event_fields event)) ≡ Ok (record event { order = i })
  unfolding line_event
  event_read i = ap (line_made i) line_said ∙ ap (λ t. Ok (record event { order = i; duration = t })) duration_said
