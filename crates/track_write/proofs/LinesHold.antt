-- The lines of a written script stand whole in its text.
use Rattle.std.proofs.Common.{◌≡◌, ℕ, ◌-◌, ◌%◌, ◌^◌, ◌<◌, ◌≤◌, Bool, true, false, cond, eqb, ltb, not, ◌&&◌, ◌||◌, List, [], ◌∷◌, ◌++◌, length, get_or, map, Some, None, ℤ, pos, negsuc, ◌+ℤ◌, int_le, refl, ap, ◌∙◌, arith, inl, inr, ◌⊎◌, ◌≤ℤ◌, length-append}
use Rattle.std.specs.Prelude.{codes}
use Rattle.std.specs.Fmt.{decimal, signed_decimal}
use Rattle.std.specs.Cmp.{signed_Decides}
use Rattle.std.specs.Int.RustNames.{unsigned_abs}
use Rattle.std.specs.List.{All, AllPass, list_all}
use Rattle.std.specs.Str.{IsUtf8}
use Rattle.std.proofs.lemmas.Bool.Decides.{nat_tests}
use Rattle.std.proofs.lemmas.Fmt.{decimal_nonempty}
use Rattle.std.proofs.lemmas.Bool.{and_parts}
use Rattle.std.proofs.lemmas.Int.{ints}
use Rattle.std.proofs.lemmas.List.Elements.{All-append, All-cons, All-nil, All-head, All-tail, All-weaker, All-get_or}
use Rattle.std.proofs.lemmas.List.Sums.{AllPass-from_list_all}
use Rattle.std.proofs.lemmas.Str.{IsUtf8-append}
use Rattle.std.proofs.lemmas.Str.Ascii.{IsAscii-from_all}
use Rattle.std.proofs.lemmas.Str.{IsUtf8-from_ascii}
use Rattle.ass_num.specs.Colours.{colour_of}
use Rattle.ass_num.specs.Limits.{IsWithin, IsHeldNumber, IsHeldLength, max_whole, max_instant}
use Rattle.ass_num.proofs.OrderLemmas.{le_is}
use Rattle.ass_script.specs.Ranges.{IsStyle, IsScriptHeader}
use Rattle.ass_script.specs.declared.script.EventField.TheVariants as field
use Rattle.ass_script.specs.declared.matrix.ColourRange.{ColourRange}
use Rattle.ass_script.specs.declared.matrix.ColourRange.TheVariants as range
use Rattle.ass_script.specs.declared.matrix.ColourMatrix.{ColourMatrix}
use Rattle.ass_script.specs.declared.matrix.ColourMatrix.TheVariants as matrix
use Rattle.ass_script.specs.declared.matrix.ScriptMatrix.{ScriptMatrix}
use Rattle.ass_script.specs.declared.matrix.ScriptMatrix.TheVariants.{Unconverted, Unsaid, Video}
use Rattle.ass_script.specs.declared.script.Header.{Header}
use Rattle.ass_script.specs.declared.style.Style.{Style}
use Rattle.ass_events.specs.Events.{is_time}
use Rattle.ass_events.specs.Ranges.{IsEvent}
use Rattle.ass_events.specs.declared.event.Event.{Event}
use Rattle.ass_events.proofs.PieceLemmas.{EachUtf8, joined_utf8}
use Rattle.track_write.specs.Ranges.{IsByteColour, IsSpelledStyle}
use Rattle.track_write.specs.Rows.{row, event_end, scaled_line, video_line, matrix_lines, header_lines, style_line, style_lines, style_format_line, event_format_line, dialogue_line, event_lines, colour_of_place}
use Rattle.track_write.specs.Spelling.{milli_text, colour_text, flag_text, time_text}
use Rattle.track_write.specs.Texts.{is_line_feed, has_line_feed, ends_in_return, is_hundredths, is_written_end, text_fault, event_fault, max_written_end}
use Rattle.track_write.proofs.EventReads.{IsWrittenTime}
use Rattle.track_write.proofs.LineCuts.{IsLine, AreLines, last_of_two, EachField, row_all, row_last}
use Rattle.track_write.proofs.Tokens.{AreTokens, no_line_feed, tokens_utf8, token_no_return, decimal_tokens, signed_tokens, milli_tokens, colour_tokens, flag_tokens, time_tokens}

-- a byte of plain lines
abbrev pub is_plain : ℕ → Bool
is_plain c = ltb c 128 && not (eqb c 10)

abbrev pub ArePlain : List ℕ → Type 0
ArePlain text = AllPass is_plain text

plain_no_feed : (c : ℕ) → is_plain c ≡ true → is_line_feed c ≡ false
plain_no_feed c e = grind (arith, nat_tests)

plain_ascii : (c : ℕ) → is_plain c ≡ true → c < 128
plain_ascii c e = grind (arith, nat_tests)

pub plain_fed : (line : List ℕ) → ArePlain line → All (λ c. is_line_feed c ≡ false) line
plain_fed line plain = All-weaker (λ c. is_plain c ≡ true) (λ c. is_line_feed c ≡ false) plain_no_feed line plain

pub plain_utf8 : (line : List ℕ) → ArePlain line → IsUtf8 line
plain_utf8 line plain = IsUtf8-from_ascii line (IsAscii-from_all line (All-weaker (λ c. is_plain c ≡ true) (λ c. c < 128) plain_ascii line plain))

pub plain_stands : (line : List ℕ) → ArePlain line → eqb (get_or line (length line - 1) 0) 13 ≡ false → IsLine line
plain_stands line plain last = record { no_line_feed = plain_fed line plain; last = last; utf8 = plain_utf8 line plain }

-- a text whose bytes are known
pub known_plain : (text : List ℕ) → list_all is_plain text ≡ true → ArePlain text
known_plain text e = AllPass-from_list_all is_plain text e

pub plain_line : (line : List ℕ) → list_all is_plain line ≡ true → eqb (get_or line (length line - 1) 0) 13 ≡ false → IsLine line
plain_line line e last = plain_stands line (known_plain line e) last

-- a plain key and what stands behind it
behind_key : (key value : List ℕ) → list_all is_plain key ≡ true → All (λ c. is_line_feed c ≡ false) value → IsUtf8 value → 0 < length value → eqb (get_or value (length value - 1) 0) 13 ≡ false → IsLine (key ++ value)
behind_key key value e fed utf8 some last = record {
  no_line_feed = All-append (λ c. is_line_feed c ≡ false) key value (plain_fed key (known_plain key e)) fed;
  last = ap (λ c. eqb c 13) (last_of_two key value some) ∙ last;
  utf8 = IsUtf8-append key value (plain_utf8 key (known_plain key e)) utf8;
}

tokens_last : (text : List ℕ) → AreTokens text → 0 < length text → eqb (get_or text (length text - 1) 0) 13 ≡ false
tokens_last text all some = token_no_return (get_or text (length text - 1) 0) (all (length text - 1) 0 (omega arith))

some_digits : (n : ℕ) → n < 2 ^ 64 → 0 < length (decimal n)
some_digits n small = decimal_nonempty n small

key_number : (key : List ℕ) (n : ℕ) → list_all is_plain key ≡ true → n ≤ 65536 → IsLine (key ++ decimal n)
key_number key n e small =
    let all = decimal_tokens n (omega arith) in
    let some = some_digits n (omega arith) in
    behind_key key (decimal n) e (no_line_feed (decimal n) all) (tokens_utf8 (decimal n) all) some (tokens_last (decimal n) all some)

scaled_whole : (b : Bool) → IsLine (scaled_line b)
scaled_whole true = plain_line (scaled_line true) refl refl
scaled_whole false = plain_line (scaled_line false) refl refl

colours_whole : (r : ColourRange) (m : ColourMatrix) → IsLine (video_line r m)
colours_whole range.Limited matrix.Bt601 = plain_line (video_line range.Limited matrix.Bt601) refl refl
colours_whole range.Limited matrix.Bt709 = plain_line (video_line range.Limited matrix.Bt709) refl refl
colours_whole range.Limited matrix.Smpte240m = plain_line (video_line range.Limited matrix.Smpte240m) refl refl
colours_whole range.Limited matrix.Fcc = plain_line (video_line range.Limited matrix.Fcc) refl refl
colours_whole range.Full matrix.Bt601 = plain_line (video_line range.Full matrix.Bt601) refl refl
colours_whole range.Full matrix.Bt709 = plain_line (video_line range.Full matrix.Bt709) refl refl
colours_whole range.Full matrix.Smpte240m = plain_line (video_line range.Full matrix.Smpte240m) refl refl
colours_whole range.Full matrix.Fcc = plain_line (video_line range.Full matrix.Fcc) refl refl

matrix_whole : (m : ScriptMatrix) → AreLines (matrix_lines m)
matrix_whole Unsaid = tt
matrix_whole Unconverted = (plain_line (codes "YCbCr Matrix: None") refl refl, tt)
matrix_whole (Video colours) = (colours_whole colours.range colours.matrix, tt)

pub header_hold : (h : Header) → IsScriptHeader h → AreLines (header_lines h)
header_hold h is = (
  plain_line (codes "[Script Info]") refl refl,
  (
    plain_line (codes "ScriptType: v4.00+") refl refl,
    (
      key_number (codes "PlayResX: ") h.res_x refl (omega (arith, is.width.1)),
      (key_number (codes "PlayResY: ") h.res_y refl (omega (arith, is.height.1)), (key_number (codes "WrapStyle: ") h.wrap refl (omega (arith, is.wrap)), (scaled_whole h.scaled, matrix_whole h.matrix))),
    ),
  ),
)

-- ---- rows

-- what a field must be for its line to stand whole
abbrev Whole : List ℕ → Type 0
Whole text = All (λ c. is_line_feed c ≡ false) text × IsUtf8 text

abbrev EachWhole : List (List ℕ) → Type 0
EachWhole [] = Unit {0}
EachWhole (text ∷ texts) = Whole text × EachWhole texts

each_fed : (texts : List (List ℕ)) → EachWhole texts → EachField (λ c. is_line_feed c ≡ false) texts
each_fed [] each = tt
each_fed (text ∷ texts) each = (each.0.0, each_fed texts each.1)

each_utf8 : (texts : List (List ℕ)) → EachWhole texts → EachUtf8 texts
each_utf8 [] each = tt
each_utf8 (text ∷ texts) each = (each.0.1, each_utf8 texts each.1)

whole_append : (a b : List (List ℕ)) → EachWhole a → EachWhole b → EachWhole (a ++ b)
whole_append [] b first second = second
whole_append (text ∷ texts) b first second = (first.0, whole_append texts b first.1 second)

of_tokens : (text : List ℕ) → AreTokens text → Whole text
of_tokens text all = (no_line_feed text all, tokens_utf8 text all)

some_row : (first second : List ℕ) (fields : List (List ℕ)) → 0 < length (row (first ∷ second ∷ fields))
some_row first second fields = omega (arith, length-append first (44 ∷ row (second ∷ fields)))

-- a line of several fields
row_line : (key first : List ℕ) (fields : List (List ℕ)) (field : List ℕ) → list_all is_plain key ≡ true → EachWhole ((first ∷ fields) ++ field ∷ []) → 0 < length (row ((first ∷ fields) ++ field ∷ [])) →
    eqb (get_or (44 ∷ field) (length (44 ∷ field) - 1) 0) 13 ≡ false → IsLine (key ++ row ((first ∷ fields) ++ field ∷ []))
row_line key first fields field plain each some last =
    let all = (first ∷ fields) ++ field ∷ [] in
    behind_key key (row all) plain (row_all (λ c. is_line_feed c ≡ false) refl all (each_fed all each)) (joined_utf8 first (fields ++ field ∷ []) (each_utf8 all each)) some (row_last (first ∷ fields) field (omega arith) last)

-- ---- styles

module _ (s : Style) (is : IsStyle s) (spelled : IsSpelledStyle s) where
  milli_whole : (z : ℤ) → IsHeldNumber z → Whole (milli_text z)
  milli_whole z held = of_tokens (milli_text z) (milli_tokens z held)

  length_whole : (z : ℤ) → IsHeldLength z → Whole (milli_text z)
  length_whole z held = milli_whole z (omega (arith, ints, held.0), held.1)

  colour_whole : (k : ℕ) → k ≤ 3 → Whole (colour_text (colour_of_place s k))
  colour_whole k below = of_tokens (colour_text (colour_of_place s k)) (colour_tokens (colour_of_place s k) (All-get_or IsByteColour s.colours k (colour_of 0) (omega (arith, is.colours)) spelled.colours))

  flag_whole : (b : Bool) → Whole (flag_text b)
  flag_whole b = of_tokens (flag_text b) (flag_tokens b)

  number_whole : (n : ℕ) → n ≤ 9 → Whole (decimal n)
  number_whole n small = of_tokens (decimal n) (decimal_tokens n (omega arith))

  margin_whole : (z : ℤ) → IsWithin max_whole z → Whole (signed_decimal z)
  margin_whole z within = of_tokens (signed_decimal z) (signed_tokens z within)

  border_small : (s.border_style ≡ 1) ⊎ (s.border_style ≡ 3) → s.border_style ≤ 9
  border_small (inl one) = omega (arith, one)
  border_small (inr three) = omega (arith, three)

  abbrev first_half : List (List ℕ)
  first_half =
      s.name ∷ s.font ∷ milli_text s.size ∷ colour_text (colour_of_place s 0) ∷ colour_text (colour_of_place s 1) ∷ colour_text (colour_of_place s 2) ∷ colour_text (colour_of_place s 3)
      ∷ flag_text s.bold ∷ flag_text s.italic ∷ flag_text s.underline ∷ flag_text s.strikeout ∷ []

  abbrev second_half : List (List ℕ)
  second_half =
      milli_text s.scale_x ∷ milli_text s.scale_y ∷ milli_text s.spacing ∷ milli_text s.angle ∷ decimal s.border_style ∷ milli_text s.outline ∷ milli_text s.shadow ∷ decimal s.alignment
      ∷ signed_decimal s.margin_l ∷ signed_decimal s.margin_r ∷ signed_decimal s.margin_v ∷ codes "1" ∷ []

  first_whole : EachWhole first_half
  first_whole = (
    (spelled.name.no_line_feed, is.name),
    (
      (spelled.font.no_line_feed, is.font),
      (
        length_whole s.size is.size,
        (
          colour_whole 0 (omega arith),
          (
            colour_whole 1 (omega arith),
            (
              colour_whole 2 (omega arith),
              (
                colour_whole 3 (omega arith),
                (flag_whole s.bold, (flag_whole s.italic, (flag_whole s.underline, (flag_whole s.strikeout, tt)))),
              ),
            ),
          ),
        ),
      ),
    ),
  )

  second_whole : EachWhole second_half
  second_whole = (
    length_whole s.scale_x is.scale_x,
    (
      length_whole s.scale_y is.scale_y,
      (
        milli_whole s.spacing is.spacing,
        (
          milli_whole s.angle is.angle,
          (
            number_whole s.border_style (border_small is.border_style),
            (
              length_whole s.outline is.outline,
              (
                length_whole s.shadow is.shadow,
                (
                  number_whole s.alignment is.alignment,
                  (
                    margin_whole s.margin_l is.margin_l,
                    (
                      margin_whole s.margin_r is.margin_r,
                      (
                        margin_whole s.margin_v is.margin_v,
                        (
                          (plain_fed (codes "1") (known_plain (codes "1") refl), plain_utf8 (codes "1") (known_plain (codes "1") refl)),
                          tt,
                        ),
                      ),
                    ),
                  ),
                ),
              ),
            ),
          ),
        ),
      ),
    ),
  )

  pub style_holds : IsLine (style_line s)
  style_holds =
      row_line (codes "Style: ") s.name
      (s.font ∷ milli_text s.size ∷ colour_text (colour_of_place s 0) ∷ colour_text (colour_of_place s 1) ∷ colour_text (colour_of_place s 2) ∷ colour_text (colour_of_place s 3)
      ∷ flag_text s.bold ∷ flag_text s.italic ∷ flag_text s.underline ∷ flag_text s.strikeout
      ∷ milli_text s.scale_x ∷ milli_text s.scale_y ∷ milli_text s.spacing ∷ milli_text s.angle ∷ decimal s.border_style ∷ milli_text s.outline ∷ milli_text s.shadow ∷ decimal s.alignment
      ∷ signed_decimal s.margin_l ∷ signed_decimal s.margin_r ∷ signed_decimal s.margin_v ∷ []) (codes "1") refl (whole_append first_half second_half first_whole second_whole)
      (some_row s.name s.font (milli_text s.size ∷ colour_text (colour_of_place s 0) ∷ colour_text (colour_of_place s 1) ∷ colour_text (colour_of_place s 2) ∷ colour_text (colour_of_place s 3)
      ∷ flag_text s.bold ∷ flag_text s.italic ∷ flag_text s.underline ∷ flag_text s.strikeout ∷ second_half)) refl

all_styles_hold : (styles : List Style) → All IsStyle styles → All IsSpelledStyle styles → AreLines (map style_line styles)
all_styles_hold [] is spelled = tt
all_styles_hold (s ∷ styles) is spelled = (style_holds s (All-head IsStyle s styles is) (All-head IsSpelledStyle s styles spelled), all_styles_hold styles (All-tail IsStyle s styles is) (All-tail IsSpelledStyle s styles spelled))

pub styles_hold : (styles : List Style) → All IsStyle styles → All IsSpelledStyle styles → AreLines (style_lines styles)
styles_hold styles is spelled = (plain_line (codes "[V4+ Styles]") refl refl, (plain_line style_format_line refl refl, all_styles_hold styles is spelled))

-- ---- events

-- what holds of an event that a line can say
pub record IsWritable (event : Event) : Type 0 where
  pub is : IsEvent event
  pub start : IsWrittenTime event.start
  pub last : IsWrittenTime (event_end event)
  pub style : All (λ c. is_line_feed c ≡ false) event.style
  pub name : All (λ c. is_line_feed c ≡ false) event.name
  pub effect : All (λ c. is_line_feed c ≡ false) event.effect
  pub text : All (λ c. is_line_feed c ≡ false) event.text
  pub ends : ends_in_return event.text ≡ false

module _ (event : Event) (can : IsWritable event) where
  time_whole : (t : ℤ) → IsWrittenTime t → Whole (time_text (unsigned_abs t))
  time_whole t written = of_tokens (time_text (unsigned_abs t)) (time_tokens (unsigned_abs t) (omega (arith, ap unsigned_abs written.value, written.most)))

  signed_whole : (z : ℤ) → IsWithin max_whole z → Whole (signed_decimal z)
  signed_whole z within = of_tokens (signed_decimal z) (signed_tokens z within)

  text_last : (text : List ℕ) → ends_in_return text ≡ false → eqb (get_or (44 ∷ text) (length (44 ∷ text) - 1) 0) 13 ≡ false
  text_last [] e = refl
  text_last (c ∷ cs) e = ap (λ z. eqb z 13) (last_of_two (44 ∷ []) (c ∷ cs) (omega arith)) ∙ e

  abbrev after_layer : List (List ℕ)
  after_layer =
      time_text (unsigned_abs event.start) ∷ time_text (unsigned_abs (event_end event)) ∷ event.style ∷ event.name
      ∷ signed_decimal event.margin_l ∷ signed_decimal event.margin_r ∷ signed_decimal event.margin_v ∷ event.effect ∷ []

  fields_whole : EachWhole ((signed_decimal event.layer ∷ after_layer) ++ event.text ∷ [])
  fields_whole = (
    signed_whole event.layer can.is.layer,
    (
      time_whole event.start can.start,
      (
        time_whole (event_end event) can.last,
        (
          (can.style, can.is.style.utf8),
          (
            (can.name, can.is.name.utf8),
            (
              signed_whole event.margin_l can.is.margin_l,
              (signed_whole event.margin_r can.is.margin_r, (signed_whole event.margin_v can.is.margin_v, ((can.effect, can.is.effect.utf8), ((can.text, can.is.text), tt)))),
            ),
          ),
        ),
      ),
    ),
  )

  pub event_holds : IsLine (dialogue_line event)
  event_holds =
      row_line (codes "Dialogue: ") (signed_decimal event.layer) after_layer event.text refl fields_whole
      (some_row (signed_decimal event.layer) (time_text (unsigned_abs event.start)) (time_text (unsigned_abs (event_end event)) ∷ event.style ∷ event.name
      ∷ signed_decimal event.margin_l ∷ signed_decimal event.margin_r ∷ signed_decimal event.margin_v ∷ event.effect ∷ event.text ∷ [])) (text_last event.text can.ends)

all_events_hold : (events : List Event) → All IsWritable events → AreLines (map dialogue_line events)
all_events_hold [] can = tt
all_events_hold (event ∷ events) can = (event_holds event (All-head IsWritable event events can), all_events_hold events (All-tail IsWritable event events can))

pub events_hold : (events : List Event) → All IsWritable events → AreLines (event_lines events)
events_hold events can = (plain_line (codes "[Events]") refl refl, (plain_line event_format_line refl refl, all_events_hold events can))

-- ---- events without a fault

-- no byte passes
none_of : (text : List ℕ) → has_line_feed text ≡ false → All (λ c. is_line_feed c ≡ false) text
none_of [] e = All-nil (λ c. is_line_feed c ≡ false)
none_of (c ∷ cs) e = let parts = either c cs e in All-cons (λ c. is_line_feed c ≡ false) c cs parts.0 (none_of cs parts.1)
  where
    either : (c : ℕ) (cs : List ℕ) → (is_line_feed c || has_line_feed cs) ≡ false → (is_line_feed c ≡ false) × (has_line_feed cs ≡ false)
    either c cs e = grind (arith, nat_tests)

written_time : (t : ℤ) → is_hundredths t ≡ true → pos 0 ≤ℤ t → t ≤ℤ pos max_written_end → IsWrittenTime t
written_time (pos n) e low high = record { number = n; value = refl; whole = (let same : pos (n % 10) ≡ pos 0 = (signed_Decides (pos (n % 10)) (pos 0)).0 e in omega (arith, ints, same)); most = omega (arith, ints, high) }
written_time (negsuc n) e low high = absurd (omega (arith, ints, low))

-- the bounds of the two ends
times : (start duration : ℤ) → is_time start ≡ true → is_time duration ≡ true → int_le (start +ℤ duration) (pos max_written_end) ≡ true → (pos 0 ≤ℤ start) × (start ≤ℤ pos max_written_end) × (pos 0 ≤ℤ (start +ℤ duration)) × ((start +ℤ duration) ≤ℤ pos max_written_end)
times start duration s d e =
    let low = le_is (pos 0) start (and_parts (int_le (pos 0) start) (int_le start (pos max_instant)) s).0 in
    let some = le_is (pos 0) duration (and_parts (int_le (pos 0) duration) (int_le duration (pos max_instant)) d).0 in
    let high = le_is (start +ℤ duration) (pos max_written_end) e in
    (low, omega (arith, ints), omega (arith, ints), high)

pub no_fault : (event : Event) → IsEvent event → event_fault event ≡ None → IsWritable event
unfolding event_fault text_fault
no_fault event is e = cases (is_hundredths event.start) (is_written_end (event_end event)) (has_line_feed event.style) (has_line_feed event.name) (has_line_feed event.effect) (has_line_feed event.text) (ends_in_return event.text) refl refl refl refl refl refl refl e
  where
    cases : (a b c d f g h : Bool) → is_hundredths event.start ≡ a → is_written_end (event_end event) ≡ b → has_line_feed event.style ≡ c → has_line_feed event.name ≡ d → has_line_feed event.effect ≡ f → has_line_feed event.text ≡ g → ends_in_return event.text ≡ h →
        cond (not a) (Some field.Start) (cond (not b) (Some field.End) (cond c (Some field.Style) (cond d (Some field.Name) (cond f (Some field.Effect) (cond (g || h) (Some field.Text) None))))) ≡ None → IsWritable event
    cases true true false false false false false ea eb ec ed ef eg eh e =
        let parts : (is_hundredths (event_end event) ≡ true) × (int_le (event_end event) (pos max_written_end) ≡ true) = and_parts (is_hundredths (event_end event)) (int_le (event_end event) (pos max_written_end)) eb in
        let first = times event.start event.duration is.start is.duration parts.1 in
        record {
          is = is;
          start = written_time event.start ea first.0 first.1;
          last = written_time (event_end event) parts.0 first.2 first.3;
          style = none_of event.style ec;
          name = none_of event.name ed;
          effect = none_of event.effect ef;
          text = none_of event.text eg;
          ends = eh;
        }
    cases _ _ _ _ _ _ _ ea eb ec ed ef eg eh e = absurd (cc)
