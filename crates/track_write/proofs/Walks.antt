-- A written script is read back.
use Rattle.std.proofs.Common.{◌≡◌, ℕ, ◌+◌, ◌<◌, ◌≤◌, Bool, true, false, cond, leb, ◌&&◌, List, [], ◌∷◌, ◌++◌, length, drop, map, Some, None, Ok, pos, refl, sym, ap, ◌∙◌, arith, append_assoc, length-append}
use Rattle.std.specs.Prelude.{codes, option_and_then}
use Rattle.std.specs.Fmt.{decimal}
use Rattle.std.specs.List.{All}
use Rattle.std.specs.Option.{option_map_or}
use Rattle.std.proofs.lemmas.Bool.Decides.{nat_tests}
use Rattle.std.proofs.lemmas.Int.{ints}
use Rattle.std.proofs.lemmas.List.{append-nil}
use Rattle.std.proofs.lemmas.List.Elements.{All-head, All-tail}
use Rattle.ass_num.specs.Limits.{IsWithin, max_whole}
use Rattle.ass_num.specs.Wholes.{whole_of}
use Rattle.ass_script.specs.Fields.{style_fields_of, style_field_named, shape_named, flag_or_margin_named, usual_style_fields, event_fields_of, event_field_named, event_margin_named, ends_in_text, usual_event_fields}
use Rattle.ass_script.specs.Limits.{max_lines, max_styles}
use Rattle.ass_script.specs.Lines.{line_in}
use Rattle.ass_script.specs.Ranges.{IsStyle, IsScriptHeader}
use Rattle.ass_script.specs.Styles.{style_of}
use Rattle.ass_script.specs.Matrices.{full_matrix_named, limited_matrix_named, matrix_of, video_colours_named}
use Rattle.ass_script.specs.Scripts.{ScriptValue, canvas_side_of, canvas_side_in, wrap_style_of, wrap_in, scaled_of}
use Rattle.ass_script.specs.Walk.{keyed_step, line_step, walked, no_script_lines, made_script}
use Rattle.ass_script.specs.declared.header_lines.HeaderLines.{HeaderLines}
use Rattle.ass_script.specs.declared.lines.Section.{Section}
use Rattle.ass_script.specs.declared.lines.Section.TheVariants as section
use Rattle.ass_script.specs.declared.lines.Version.TheVariants.{V4Plus}
use Rattle.ass_script.specs.declared.lines.Key.{Key}
use Rattle.ass_script.specs.declared.reading.Reading.{Reading}
use Rattle.ass_script.specs.declared.refusal.ScriptRefusal.TheVariants as refusal
use Rattle.ass_script.specs.declared.matrix.ColourRange.{ColourRange}
use Rattle.ass_script.specs.declared.matrix.ColourRange.TheVariants as range
use Rattle.ass_script.specs.declared.matrix.ColourMatrix.{ColourMatrix}
use Rattle.ass_script.specs.declared.matrix.ColourMatrix.TheVariants as matrix
use Rattle.ass_script.specs.declared.matrix.ScriptMatrix.{ScriptMatrix}
use Rattle.ass_script.specs.declared.matrix.ScriptMatrix.TheVariants.{Unconverted, Unsaid, Video}
use Rattle.ass_script.specs.declared.script.Header.{Header}
use Rattle.ass_script.specs.declared.style.Style.{Style}
use Rattle.ass_events.specs.declared.event.Event.{Event}
use Rattle.ass_num.specs.Blanks.{past_blanks, before_blanks, trimmed}
use Rattle.track_write.specs.Ranges.{IsSpelledStyle, IsSpelledScript}
use Rattle.track_write.specs.Rows.{row, event_fields, header_lines, style_fields, style_format_line, style_line, style_lines, event_format_line, dialogue_line, spoken, event_lines, scaled_line, range_name, matrix_name, video_line, matrix_lines, script_lines}
use Rattle.track_write.proofs.LineReads.{said, info_heading, styles_heading, events_heading, type_line, width_line, height_line, wrap_line, scaled_said, matrix_said, style_said, style_format_said, event_format_said, dialogue_said}
use Rattle.track_write.proofs.Readings.{whole_read, one_blank}
use Rattle.track_write.proofs.StyleReads.{style_read}

-- ---- one line on

pub on : (text : List ℕ) (texts : List (List ℕ)) (s : Section) (k : Key) (value : List ℕ) (r next : Reading) → r.section ≡ s → line_in s text ≡ said k value → keyed_step k value r ≡ next → walked (text ∷ texts) r ≡ walked texts next
unfolding walked
on text texts s k value r next at line does =
    ap (walked texts) (ap (λ z. keyed_step (line_in z text).key (line_in z text).value r) at ∙ ap (λ l. keyed_step l.key l.value r) line ∙ does)

pub walked_append : (texts more : List (List ℕ)) (r : Reading) → walked (texts ++ more) r ≡ walked more (walked texts r)
unfolding walked
walked_append [] more r = refl
walked_append (text ∷ texts) more r = walked_append texts more (line_step text r)

pub walked_none : (r : Reading) → walked [] r ≡ r
unfolding walked
walked_none r = refl

-- ---- the header

small_whole : (n : ℕ) → n ≤ 16384 → IsWithin max_whole (pos n)
small_whole n small = (omega (arith, ints), omega (arith, ints))

side_read : (n : ℕ) → 1 ≤ n → n ≤ 16384 → canvas_side_of (32 ∷ decimal n) ≡ Some n
unfolding canvas_side_of
side_read n some small =
    let low : leb 1 n ≡ true = grind (arith, nat_tests) in
    let high : leb n 16384 ≡ true = grind (arith, nat_tests) in
    ap (option_and_then canvas_side_in) (whole_read (32 ∷ []) (pos n) one_blank (small_whole n (omega arith)))
    ∙ ap (λ b. cond (b && leb n 16384) (Some n) None) low ∙ ap (λ b. cond b (Some n) None) high

wrap_read : (n : ℕ) → n ≤ 3 → wrap_style_of (32 ∷ decimal n) ≡ n
unfolding wrap_style_of
wrap_read n small =
    let high : leb n 3 ≡ true = grind (arith, nat_tests) in
    ap (λ o. option_map_or wrap_in o 0) (whole_read (32 ∷ []) (pos n) one_blank (small_whole n (omega arith))) ∙ ap (λ b. cond b n 0) high

scaled_read : (b : Bool) → scaled_of (32 ∷ cond b (codes "yes") (codes "no")) ≡ b
unfolding scaled_of whole_of trimmed past_blanks before_blanks
scaled_read true = refl
scaled_read false = refl

none_read : matrix_of (codes " None") ≡ Unconverted
unfolding matrix_of trimmed past_blanks before_blanks
none_read = refl

video_read : (r : ColourRange) (m : ColourMatrix) → matrix_of (32 ∷ (range_name r ++ matrix_name m)) ≡ Video (record { matrix = m; range = r })
unfolding matrix_of video_colours_named limited_matrix_named full_matrix_named trimmed past_blanks before_blanks
video_read range.Limited matrix.Bt601 = refl
video_read range.Limited matrix.Bt709 = refl
video_read range.Limited matrix.Smpte240m = refl
video_read range.Limited matrix.Fcc = refl
video_read range.Full matrix.Bt601 = refl
video_read range.Full matrix.Bt709 = refl
video_read range.Full matrix.Smpte240m = refl
video_read range.Full matrix.Fcc = refl

abbrev header_said : Header → HeaderLines
header_said h = record { res_x = Some h.res_x; res_y = Some h.res_y; wrap = h.wrap; scaled = h.scaled; matrix = h.matrix }

-- behind the lines of the header
abbrev with_header : HeaderLines → Reading
with_header h = record no_script_lines { section = section.Info; header = h }

-- behind the line of the matrix
matrix_walked : (m : ScriptMatrix) (d : HeaderLines) → d.matrix ≡ Unsaid → walked (matrix_lines m) (with_header d) ≡ with_header (record d { matrix = m })
matrix_walked Unsaid d unsaid = walked_none (with_header d) ∙ ap (λ (m : ScriptMatrix). with_header (record d { matrix = m })) unsaid
matrix_walked Unconverted d unsaid =
    on (codes "YCbCr Matrix: None") [] section.Info _ _ (with_header d) (with_header (record d { matrix = matrix_of (codes " None") })) refl (matrix_said (codes "None")) refl
    ∙ walked_none _ ∙ ap (λ (m : ScriptMatrix). with_header (record d { matrix = m })) none_read
matrix_walked (Video colours) d unsaid =
    let name = range_name colours.range ++ matrix_name colours.matrix in
    on (video_line colours.range colours.matrix) [] section.Info _ _ (with_header d) (with_header (record d { matrix = matrix_of (32 ∷ name) })) refl (matrix_said name) refl
    ∙ walked_none _ ∙ ap (λ (m : ScriptMatrix). with_header (record d { matrix = m })) (video_read colours.range colours.matrix)

header_walked : (h : Header) → IsScriptHeader h → walked (header_lines h) no_script_lines ≡ with_header (header_said h)
header_walked h is =
    let width = side_read h.res_x is.width.0 is.width.1 in
    let height = side_read h.res_y is.height.0 is.height.1 in
    let none : HeaderLines = no_script_lines.header in
    let a : HeaderLines = record none { res_x = canvas_side_of (32 ∷ decimal h.res_x) } in
    let b : HeaderLines = record a { res_y = canvas_side_of (32 ∷ decimal h.res_y) } in
    let c : HeaderLines = record b { wrap = wrap_style_of (32 ∷ decimal h.wrap) } in
    let d : HeaderLines = record c { scaled = scaled_of (32 ∷ cond h.scaled (codes "yes") (codes "no")) } in
    on (codes "[Script Info]") _ section.Other _ _ no_script_lines (with_header none) refl info_heading refl
    ∙ on (codes "ScriptType: v4.00+") _ section.Info _ _ (with_header none) (with_header none) refl type_line refl
    ∙ on (codes "PlayResX: " ++ decimal h.res_x) _ section.Info _ _ (with_header none) (with_header a) refl (width_line (decimal h.res_x)) refl
    ∙ on (codes "PlayResY: " ++ decimal h.res_y) _ section.Info _ _ (with_header a) (with_header b) refl (height_line (decimal h.res_y)) refl
    ∙ on (codes "WrapStyle: " ++ decimal h.wrap) _ section.Info _ _ (with_header b) (with_header c) refl (wrap_line (decimal h.wrap)) refl
    ∙ on (scaled_line h.scaled) (matrix_lines h.matrix) section.Info _ _ (with_header c) (with_header d) refl (scaled_said (cond h.scaled (codes "yes") (codes "no"))) refl
    ∙ matrix_walked h.matrix d refl
    ∙ (λ i. with_header (record { res_x = width i; res_y = height i; wrap = wrap_read h.wrap is.wrap i; scaled = scaled_read h.scaled i; matrix = h.matrix }))

-- ---- the styles

abbrev with_styles : HeaderLines → List Style → Reading
with_styles h styles = record {
  section = section.Styles V4Plus;
  headings = record { events = false; styles = true; old_styles = false };
  header = h;
  fields = Some (usual_style_fields V4Plus);
  old_fields = None;
  styles = styles;
  format = None;
  lines = [];
  refusal = None;
}

one_style : (h : HeaderLines) (before : List Style) (s : Style) (texts : List (List ℕ)) → length before < max_styles → IsStyle s → IsSpelledStyle s → walked (style_line s ∷ texts) (with_styles h before) ≡ walked texts (with_styles h (before ++ s ∷ []))
one_style h before s texts few is spelled =
    let room : leb max_styles (length before) ≡ false = grind (arith, nat_tests) in
    on (style_line s) texts (section.Styles V4Plus) _ _ (with_styles h before) (with_styles h (before ++ s ∷ [])) refl (style_said (row (style_fields s)))
    (ap (λ b. cond b (record (with_styles h before) { refusal = Some (refusal.TooManyStyles max_styles) }) (with_styles h (before ++ style_of V4Plus (usual_style_fields V4Plus) (32 ∷ row (style_fields s)) ∷ []))) room
    ∙ ap (λ z. with_styles h (before ++ z ∷ [])) (style_read s is spelled))

all_styles : (h : HeaderLines) (before styles : List Style) → length before + length styles ≤ max_styles → All IsStyle styles → All IsSpelledStyle styles → walked (map style_line styles) (with_styles h before) ≡ with_styles h (before ++ styles)
all_styles h before [] few is spelled = walked_none (with_styles h before) ∙ ap (with_styles h) (sym (append-nil before))
all_styles h before (s ∷ styles) few is spelled =
    one_style h before s (map style_line styles) (omega arith) (All-head IsStyle s styles is) (All-head IsSpelledStyle s styles spelled)
    ∙ all_styles h (before ++ s ∷ []) styles (omega (arith, length-append before (s ∷ []))) (All-tail IsStyle s styles is) (All-tail IsSpelledStyle s styles spelled)
    ∙ ap (with_styles h) (append_assoc before (s ∷ []) styles)

-- ---- the events

abbrev with_events : HeaderLines → List Style → List (List ℕ) → Reading
with_events h styles texts = record {
  section = section.Events;
  headings = record { events = true; styles = true; old_styles = false };
  header = h;
  fields = Some (usual_style_fields V4Plus);
  old_fields = None;
  styles = styles;
  format = Some (usual_event_fields V4Plus);
  lines = texts;
  refusal = None;
}

-- in the events of a script, where this stands behind the Dialogues so far
abbrev pub in_events : Reading → List (List ℕ) → Reading
in_events r said = record r { section = section.Events; lines = said; refusal = None }

one_dialogue : (r : Reading) (before : List (List ℕ)) (value : List ℕ) (texts : List (List ℕ)) → length before < max_lines →
    walked ((codes "Dialogue: " ++ value) ∷ texts) (in_events r before) ≡ walked texts (in_events r (before ++ (32 ∷ value) ∷ []))
one_dialogue r before value texts few =
    let room : leb max_lines (length before) ≡ false = grind (arith, nat_tests) in
    on (codes "Dialogue: " ++ value) texts section.Events _ _ (in_events r before) (in_events r (before ++ (32 ∷ value) ∷ [])) refl (dialogue_said value)
    (ap (λ b. cond b (record (in_events r before) { refusal = Some (refusal.TooManyLines max_lines) }) (in_events r (before ++ (32 ∷ value) ∷ []))) room)

pub all_dialogues : {Item : Type 0} (value : Item → List ℕ) (r : Reading) (before : List (List ℕ)) (items : List Item) → length before + length items ≤ max_lines →
    walked (map (λ item. codes "Dialogue: " ++ value item) items) (in_events r before) ≡ in_events r (before ++ map (λ item. 32 ∷ value item) items)
all_dialogues value r before [] few = walked_none (in_events r before) ∙ ap (in_events r) (sym (append-nil before))
all_dialogues value r before (item ∷ items) few =
    one_dialogue r before (value item) (map (λ item. codes "Dialogue: " ++ value item) items) (omega arith)
    ∙ all_dialogues value r (before ++ (32 ∷ value item) ∷ []) items (omega (arith, length-append before ((32 ∷ value item) ∷ [])))
    ∙ ap (in_events r) (append_assoc before ((32 ∷ value item) ∷ []) (map (λ item. 32 ∷ value item) items))

-- ---- the Formats

style_format_is : style_fields_of V4Plus (32 ∷ drop 8 style_format_line) ≡ usual_style_fields V4Plus
unfolding style_fields_of style_field_named shape_named flag_or_margin_named trimmed past_blanks before_blanks
style_format_is = refl

event_fields_are : event_fields_of (32 ∷ drop 8 event_format_line) ≡ usual_event_fields V4Plus
unfolding event_fields_of event_field_named event_margin_named trimmed past_blanks before_blanks
event_fields_are = refl

-- ---- the whole script

module _ (script : ScriptValue) (events : List Event) (is : IsSpelledScript script) (few : length events ≤ max_lines) where
  abbrev header : HeaderLines
  header = header_said script.header

  styles_walked : walked (style_lines script.styles) (with_header header) ≡ with_styles header script.styles
  styles_walked =
      on (codes "[V4+ Styles]") _ section.Info _ _ (with_header header) (record (with_header header) { section = section.Styles V4Plus; headings = record { events = false; styles = true; old_styles = false } }) refl styles_heading refl
      ∙ on style_format_line _ (section.Styles V4Plus) _ _ _ (with_styles header []) refl (style_format_said (drop 8 style_format_line)) (ap (λ f. record (with_styles header []) { fields = Some f }) style_format_is)
      ∙ all_styles header [] script.styles (omega (arith, is.ranges.few_styles)) is.ranges.styles is.styles

  events_walked : walked (event_lines events) (with_styles header script.styles) ≡ with_events header script.styles (map spoken events)
  events_walked =
      on (codes "[Events]") _ (section.Styles V4Plus) _ _ (with_styles header script.styles) (record (with_events header script.styles []) { format = None }) refl events_heading refl
      ∙ on event_format_line _ section.Events _ _ _ (with_events header script.styles []) refl (event_format_said (drop 8 event_format_line))
      (ap (λ f. cond (ends_in_text f) (record (with_events header script.styles []) { format = Some f }) (record (with_events header script.styles []) { format = None })) event_fields_are)
      ∙ all_dialogues (λ event. row (event_fields event)) (with_events header script.styles []) [] events (omega arith)

  pub script_walked : made_script (walked (script_lines script events) no_script_lines) ≡ Ok (record { header = script.header; styles = script.styles; format = usual_event_fields V4Plus; lines = map spoken events })
  script_walked =
      ap made_script (walked_append (header_lines script.header ++ style_lines script.styles) (event_lines events) no_script_lines
      ∙ ap (walked (event_lines events)) (walked_append (header_lines script.header) (style_lines script.styles) no_script_lines ∙ ap (walked (style_lines script.styles)) (header_walked script.header is.ranges.header) ∙ styles_walked)
      ∙ events_walked)
