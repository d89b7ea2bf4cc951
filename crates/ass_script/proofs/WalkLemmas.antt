-- The walk over the lines keeps what is picked from the list of all lines so far.
use Rattle.std.proofs.Common.{◌≡◌, ℕ, Bool, true, false, cond, leb, List, [], ◌∷◌, ◌++◌, length, Option, Some, None, Ok, Err, refl, sym, ap, ◌∙◌, subst, append_assoc}
use Rattle.std.specs.Prelude.{is_some, option_and_then}
use Rattle.std.specs.List.{list_any, before_first, after_first}
use Rattle.std.specs.Option.{option_or, option_map, option_map_or}
use Rattle.std.proofs.lemmas.List.{append-nil}
use Rattle.ass_script.specs.Limits.{max_lines, max_styles}
use Rattle.ass_script.specs.Fields.{style_fields_of, usual_style_fields, event_fields_of, ends_in_text}
use Rattle.ass_script.specs.Styles.{style_of}
use Rattle.ass_num.specs.Blanks.{trimmed}
use Rattle.ass_script.specs.Words.{is_colon}
use Rattle.ass_script.specs.Lines.{Line, is_heading, is_comment, section_named, info_key_named, style_key_named, event_key_named, key_named, keyed_line, line_in, section_behind, lines_in_sections}
use Rattle.ass_script.specs.Scripts.{has, values_of, last_of, last_value, is_res_x, is_res_y, is_wrap, is_scaled, is_matrix, is_dialogue, is_style_format, style_version, is_events_heading, is_styles_heading, canvas_side_of, wrap_style_of, scaled_of, style_fields_behind, styles_behind, event_formats, limit_at, limit_behind, picked_script, script_of_lines}
use Rattle.ass_script.specs.Matrices.{matrix_of}
use Rattle.ass_script.specs.Walk.{fields_of, key_step, keyed_step, line_step, walked, no_script_lines, script_said, made_script}
use Rattle.ass_script.specs.declared.lines.Version.{Version}
use Rattle.ass_script.specs.declared.lines.Version.TheVariants.{V4, V4Plus}
use Rattle.ass_script.specs.declared.lines.Section.{Section}
use Rattle.ass_script.specs.declared.lines.Section.TheVariants as section
use Rattle.ass_script.specs.declared.lines.Key.{Key}
use Rattle.ass_script.specs.declared.lines.Key.TheVariants as key
use Rattle.ass_script.specs.declared.header_lines.HeaderLines.{HeaderLines}
use Rattle.ass_script.specs.declared.matrix.ScriptMatrix.TheVariants.{Unsaid}
use Rattle.ass_script.specs.declared.reading.Headings.{Headings}
use Rattle.ass_script.specs.declared.reading.Reading.{Reading}
use Rattle.ass_script.specs.declared.script.EventField.{EventField}
use Rattle.ass_script.specs.declared.style.Style.{Style}
use Rattle.ass_script.specs.declared.style_field.StyleField.{StyleField}
use Rattle.ass_script.specs.declared.refusal.ScriptRefusal.{ScriptRefusal}
use Rattle.ass_script.specs.declared.refusal.ScriptRefusal.TheVariants as refusal
use Rattle.ass_script.proofs.MoreLines.{has_yes, has_no, values_yes, values_no, last_yes, last_no, formats_yes, formats_no, styles_more, limit_more}

-- ---- what is picked so far

abbrev headings_in : List Line → Headings
headings_in before = record { events = has is_events_heading before; styles = has (is_styles_heading V4Plus) before; old_styles = has (is_styles_heading V4) before }

abbrev header_in : List Line → HeaderLines
header_in before = record {
  res_x = option_and_then canvas_side_of (last_value is_res_x before);
  res_y = option_and_then canvas_side_of (last_value is_res_y before);
  wrap = option_map_or wrap_style_of (last_value is_wrap before) 0;
  scaled = option_map_or scaled_of (last_value is_scaled before) false;
  matrix = option_map_or matrix_of (last_value is_matrix before) Unsaid;
}

abbrev fields_in : Version → List Line → Option (List StyleField)
fields_in version before = option_map (style_fields_of version) (last_value (is_style_format version) before)

abbrev picked : Section → List Line → Reading
picked s before = record {
  section = s;
  headings = headings_in before;
  header = header_in before;
  fields = fields_in V4Plus before;
  old_fields = fields_in V4 before;
  styles = styles_behind [] before;
  format = last_of (event_formats before);
  lines = values_of is_dialogue before;
  refusal = None;
}

-- What holds behind some lines: where no line was one too many, all of it; else the headings, and why.
abbrev HoldsBy : Option ScriptRefusal → Section → List Line → Reading → Type 0
HoldsBy None s before r = r ≡ picked s before
HoldsBy (Some why) s before r = (r.section ≡ s) × (r.headings.events ≡ has is_events_heading before) × (r.refusal ≡ Some why)

abbrev Holds : Section → List Line → Reading → Type 0
Holds s before r = HoldsBy (limit_behind [] before) s before r

-- ---- one line on

abbrev section_at : Key → Section → Section
section_at (key.Heading t) s = t
section_at _ s = s

reading_path : (s : Section) {headings headings' : Headings} {header header' : HeaderLines} {fields fields' old_fields old_fields' : Option (List StyleField)} {styles styles' : List Style} {format format' : Option (List EventField)} {lines lines' : List (List ℕ)} →
    headings ≡ headings' → header ≡ header' → fields ≡ fields' → old_fields ≡ old_fields' → styles ≡ styles' → format ≡ format' → lines ≡ lines' →
    ◌≡◌ {A = Reading} (record { section = s; headings = headings; header = header; fields = fields; old_fields = old_fields; styles = styles; format = format; lines = lines; refusal = None })
    (record { section = s; headings = headings'; header = header'; fields = fields'; old_fields = old_fields'; styles = styles'; format = format'; lines = lines'; refusal = None })
reading_path s a b c d e f g = λ i. record { section = s; headings = a i; header = b i; fields = c i; old_fields = d i; styles = e i; format = f i; lines = g i; refusal = None }

map_or_map : {X Y : Type 0} (f : X → Y) (o : Option X) (d : Y) → option_map_or (λ y. y) (option_map f o) d ≡ option_map_or f o d
map_or_map f None d = refl
map_or_map f (Some x) d = refl

pub fields_are : (version : Version) (s : Section) (before : List Line) → fields_of version (picked s before) ≡ style_fields_behind version before
fields_are V4 s before = map_or_map (style_fields_of V4) (last_value (is_style_format V4) before) (usual_style_fields V4)
fields_are V4Plus s before = map_or_map (style_fields_of V4Plus) (last_value (is_style_format V4Plus) before) (usual_style_fields V4Plus)

module _ (before : List Line) (k : Key) (value : List ℕ) where
  abbrev line : Line
  line = record { key = k; value = value }

  abbrev after : List Line
  after = before ++ line ∷ []

  same_headings : is_events_heading k ≡ false → is_styles_heading V4Plus k ≡ false → is_styles_heading V4 k ≡ false → headings_in before ≡ headings_in after
  same_headings a b c = λ i. record { events = has_no before line is_events_heading a i; styles = has_no before line (is_styles_heading V4Plus) b i; old_styles = has_no before line (is_styles_heading V4) c i }

  same_header : is_res_x k ≡ false → is_res_y k ≡ false → is_wrap k ≡ false → is_scaled k ≡ false → is_matrix k ≡ false → header_in before ≡ header_in after
  same_header a b c d e = λ i. record {
    res_x = option_and_then canvas_side_of (last_no before line is_res_x a i);
    res_y = option_and_then canvas_side_of (last_no before line is_res_y b i);
    wrap = option_map_or wrap_style_of (last_no before line is_wrap c i) 0;
    scaled = option_map_or scaled_of (last_no before line is_scaled d i) false;
    matrix = option_map_or matrix_of (last_no before line is_matrix e i) Unsaid;
  }

  same_fields : (version : Version) → is_style_format version k ≡ false → fields_in version before ≡ fields_in version after
  same_fields version is = ap (option_map (style_fields_of version)) (last_no before line (is_style_format version) is)

  new_fields : (version : Version) → is_style_format version k ≡ true → Some (style_fields_of version value) ≡ fields_in version after
  new_fields version is = ap (option_map (style_fields_of version)) (last_yes before line (is_style_format version) is)

  same_styles : style_version k ≡ None → styles_behind [] before ≡ styles_behind [] after
  same_styles is =
      sym (append-nil (styles_behind [] before))
      ∙ (ap (λ o. styles_behind [] before ++ option_map_or (λ version. style_of version (style_fields_behind version before) value ∷ []) o []) (sym is) ∙ styles_more before line)

  new_style : (version : Version) → style_version k ≡ Some version → (s : Section) → styles_behind [] before ++ style_of version (fields_of version (picked s before)) value ∷ [] ≡ styles_behind [] after
  new_style version is s =
      ap (λ fields. styles_behind [] before ++ style_of version fields value ∷ []) (fields_are version s before)
      ∙ (ap (λ o. styles_behind [] before ++ option_map_or (λ v. style_of v (style_fields_behind v before) value ∷ []) o []) (sym is) ∙ styles_more before line)

-- Where no line before was one too many.
picked_step : (k : Key) (value : List ℕ) (s : Section) (before : List Line) →
    HoldsBy (limit_at before (record { key = k; value = value })) (section_at k s) (before ++ record { key = k; value = value } ∷ []) (keyed_step k value (picked s before))
picked_step (key.Heading section.Info) value s before = let k = key.Heading section.Info in
    reading_path section.Info (same_headings before k value refl refl refl) (same_header before k value refl refl refl refl refl) (same_fields before k value V4Plus refl) (same_fields before k value V4 refl)
    (same_styles before k value refl) (formats_no before _ refl) (values_no before _ is_dialogue refl)
picked_step (key.Heading section.Other) value s before = let k = key.Heading section.Other in
    reading_path section.Other (same_headings before k value refl refl refl) (same_header before k value refl refl refl refl refl) (same_fields before k value V4Plus refl) (same_fields before k value V4 refl)
    (same_styles before k value refl) (formats_no before _ refl) (values_no before _ is_dialogue refl)
picked_step (key.Heading section.Events) value s before = let k = key.Heading section.Events in
    reading_path section.Events (λ i. record { events = has_yes before (record { key = k; value = value }) is_events_heading refl i; styles = has_no before (record { key = k; value = value }) (is_styles_heading V4Plus) refl i; old_styles = has_no before (record { key = k; value = value }) (is_styles_heading V4) refl i })
    (same_header before k value refl refl refl refl refl) (same_fields before k value V4Plus refl) (same_fields before k value V4 refl)
    (same_styles before k value refl) (formats_no before _ refl) (values_no before _ is_dialogue refl)
picked_step (key.Heading (section.Styles V4Plus)) value s before = let k = key.Heading (section.Styles V4Plus) in
    reading_path (section.Styles V4Plus) (λ i. record { events = has_no before (record { key = k; value = value }) is_events_heading refl i; styles = has_yes before (record { key = k; value = value }) (is_styles_heading V4Plus) refl i; old_styles = has_no before (record { key = k; value = value }) (is_styles_heading V4) refl i })
    (same_header before k value refl refl refl refl refl) (same_fields before k value V4Plus refl) (same_fields before k value V4 refl)
    (same_styles before k value refl) (formats_no before _ refl) (values_no before _ is_dialogue refl)
picked_step (key.Heading (section.Styles V4)) value s before = let k = key.Heading (section.Styles V4) in
    reading_path (section.Styles V4) (λ i. record { events = has_no before (record { key = k; value = value }) is_events_heading refl i; styles = has_no before (record { key = k; value = value }) (is_styles_heading V4Plus) refl i; old_styles = has_yes before (record { key = k; value = value }) (is_styles_heading V4) refl i })
    (same_header before k value refl refl refl refl refl) (same_fields before k value V4Plus refl) (same_fields before k value V4 refl)
    (same_styles before k value refl) (formats_no before _ refl) (values_no before _ is_dialogue refl)
picked_step key.ResX value s before = let k = key.ResX in
    reading_path s (same_headings before k value refl refl refl)
    (λ i. record {
      res_x = option_and_then canvas_side_of (last_yes before (record { key = k; value = value }) is_res_x refl i);
      res_y = option_and_then canvas_side_of (last_no before (record { key = k; value = value }) is_res_y refl i);
      wrap = option_map_or wrap_style_of (last_no before (record { key = k; value = value }) is_wrap refl i) 0;
      scaled = option_map_or scaled_of (last_no before (record { key = k; value = value }) is_scaled refl i) false;
      matrix = option_map_or matrix_of (last_no before (record { key = k; value = value }) is_matrix refl i) Unsaid;
    })
    (same_fields before k value V4Plus refl) (same_fields before k value V4 refl)
    (same_styles before k value refl) (formats_no before _ refl) (values_no before _ is_dialogue refl)
picked_step key.ResY value s before = let k = key.ResY in
    reading_path s (same_headings before k value refl refl refl)
    (λ i. record {
      res_x = option_and_then canvas_side_of (last_no before (record { key = k; value = value }) is_res_x refl i);
      res_y = option_and_then canvas_side_of (last_yes before (record { key = k; value = value }) is_res_y refl i);
      wrap = option_map_or wrap_style_of (last_no before (record { key = k; value = value }) is_wrap refl i) 0;
      scaled = option_map_or scaled_of (last_no before (record { key = k; value = value }) is_scaled refl i) false;
      matrix = option_map_or matrix_of (last_no before (record { key = k; value = value }) is_matrix refl i) Unsaid;
    })
    (same_fields before k value V4Plus refl) (same_fields before k value V4 refl)
    (same_styles before k value refl) (formats_no before _ refl) (values_no before _ is_dialogue refl)
picked_step key.Wrap value s before = let k = key.Wrap in
    reading_path s (same_headings before k value refl refl refl)
    (λ i. record {
      res_x = option_and_then canvas_side_of (last_no before (record { key = k; value = value }) is_res_x refl i);
      res_y = option_and_then canvas_side_of (last_no before (record { key = k; value = value }) is_res_y refl i);
      wrap = option_map_or wrap_style_of (last_yes before (record { key = k; value = value }) is_wrap refl i) 0;
      scaled = option_map_or scaled_of (last_no before (record { key = k; value = value }) is_scaled refl i) false;
      matrix = option_map_or matrix_of (last_no before (record { key = k; value = value }) is_matrix refl i) Unsaid;
    })
    (same_fields before k value V4Plus refl) (same_fields before k value V4 refl)
    (same_styles before k value refl) (formats_no before _ refl) (values_no before _ is_dialogue refl)
picked_step key.Scaled value s before = let k = key.Scaled in
    reading_path s (same_headings before k value refl refl refl)
    (λ i. record {
      res_x = option_and_then canvas_side_of (last_no before (record { key = k; value = value }) is_res_x refl i);
      res_y = option_and_then canvas_side_of (last_no before (record { key = k; value = value }) is_res_y refl i);
      wrap = option_map_or wrap_style_of (last_no before (record { key = k; value = value }) is_wrap refl i) 0;
      scaled = option_map_or scaled_of (last_yes before (record { key = k; value = value }) is_scaled refl i) false;
      matrix = option_map_or matrix_of (last_no before (record { key = k; value = value }) is_matrix refl i) Unsaid;
    })
    (same_fields before k value V4Plus refl) (same_fields before k value V4 refl)
    (same_styles before k value refl) (formats_no before _ refl) (values_no before _ is_dialogue refl)
picked_step key.Matrix value s before = let k = key.Matrix in
    reading_path s (same_headings before k value refl refl refl)
    (λ i. record {
      res_x = option_and_then canvas_side_of (last_no before (record { key = k; value = value }) is_res_x refl i);
      res_y = option_and_then canvas_side_of (last_no before (record { key = k; value = value }) is_res_y refl i);
      wrap = option_map_or wrap_style_of (last_no before (record { key = k; value = value }) is_wrap refl i) 0;
      scaled = option_map_or scaled_of (last_no before (record { key = k; value = value }) is_scaled refl i) false;
      matrix = option_map_or matrix_of (last_yes before (record { key = k; value = value }) is_matrix refl i) Unsaid;
    })
    (same_fields before k value V4Plus refl) (same_fields before k value V4 refl)
    (same_styles before k value refl) (formats_no before _ refl) (values_no before _ is_dialogue refl)
picked_step (key.StyleFormat V4Plus) value s before = let k = key.StyleFormat V4Plus in
    reading_path s (same_headings before k value refl refl refl) (same_header before k value refl refl refl refl refl) (new_fields before k value V4Plus refl) (same_fields before k value V4 refl)
    (same_styles before k value refl) (formats_no before _ refl) (values_no before _ is_dialogue refl)
picked_step (key.StyleFormat V4) value s before = let k = key.StyleFormat V4 in
    reading_path s (same_headings before k value refl refl refl) (same_header before k value refl refl refl refl refl) (same_fields before k value V4Plus refl) (new_fields before k value V4 refl)
    (same_styles before k value refl) (formats_no before _ refl) (values_no before _ is_dialogue refl)
picked_step (key.Style version) value s before = cases (leb max_styles (length (styles_behind [] before)))
  where
    cases : (b : Bool) → HoldsBy (cond b (Some (refusal.TooManyStyles max_styles)) None) s (before ++ record { key = key.Style version; value = value } ∷ [])
        (cond b (record (picked s before) { refusal = Some (refusal.TooManyStyles max_styles) }) (record (picked s before) { styles = styles_behind [] before ++ style_of version (fields_of version (picked s before)) value ∷ [] }))
    cases true = (refl, has_no before (record { key = key.Style version; value = value }) is_events_heading refl, refl)
    cases false = let k = key.Style version in
        reading_path s (same_headings before k value refl refl refl) (same_header before k value refl refl refl refl refl) (same_fields before k value V4Plus refl) (same_fields before k value V4 refl)
        (new_style before k value version refl s) (formats_no before _ refl) (values_no before _ is_dialogue refl)
picked_step key.EventFormat value s before = cases (ends_in_text (event_fields_of value)) (formats_yes before (record { key = key.EventFormat; value = value }) refl)
  where
    cases : (b : Bool) → cond b (Some (event_fields_of value)) (last_of (event_formats before)) ≡ last_of (event_formats (before ++ record { key = key.EventFormat; value = value } ∷ [])) →
        cond b (record (picked s before) { format = Some (event_fields_of value) }) (picked s before) ≡ picked s (before ++ record { key = key.EventFormat; value = value } ∷ [])
    cases true format = let k = key.EventFormat in
        reading_path s (same_headings before k value refl refl refl) (same_header before k value refl refl refl refl refl) (same_fields before k value V4Plus refl) (same_fields before k value V4 refl)
        (same_styles before k value refl) format (values_no before _ is_dialogue refl)
    cases false format = let k = key.EventFormat in
        reading_path s (same_headings before k value refl refl refl) (same_header before k value refl refl refl refl refl) (same_fields before k value V4Plus refl) (same_fields before k value V4 refl)
        (same_styles before k value refl) format (values_no before _ is_dialogue refl)
picked_step key.Dialogue value s before = cases (leb max_lines (length (values_of is_dialogue before)))
  where
    cases : (b : Bool) → HoldsBy (cond b (Some (refusal.TooManyLines max_lines)) None) s (before ++ record { key = key.Dialogue; value = value } ∷ [])
        (cond b (record (picked s before) { refusal = Some (refusal.TooManyLines max_lines) }) (record (picked s before) { lines = values_of is_dialogue before ++ value ∷ [] }))
    cases true = (refl, has_no before (record { key = key.Dialogue; value = value }) is_events_heading refl, refl)
    cases false = let k = key.Dialogue in
        reading_path s (same_headings before k value refl refl refl) (same_header before k value refl refl refl refl refl) (same_fields before k value V4Plus refl) (same_fields before k value V4 refl)
        (same_styles before k value refl) (formats_no before _ refl) (values_yes before _ is_dialogue refl)
picked_step key.Other value s before = let k = key.Other in
    reading_path s (same_headings before k value refl refl refl) (same_header before k value refl refl refl refl refl) (same_fields before k value V4Plus refl) (same_fields before k value V4 refl)
    (same_styles before k value refl) (formats_no before _ refl) (values_no before _ is_dialogue refl)

-- A line that is no heading changes nothing then.
stays : (k : Key) (value : List ℕ) (s : Section) (before : List Line) (why : ScriptRefusal) (r : Reading) → is_events_heading k ≡ false → HoldsBy (Some why) s before r →
    HoldsBy (Some why) s (before ++ record { key = k; value = value } ∷ []) (cond (is_some r.refusal) r (key_step k value r))
stays k value s before why r other holds =
    let same : cond (is_some r.refusal) r (key_step k value r) ≡ r = ap (λ o. cond (is_some o) r (key_step k value r)) holds.2 in
    subst (λ (q : Reading). HoldsBy (Some why) s (before ++ record { key = k; value = value } ∷ []) q) (sym same)
    (holds.0, holds.1 ∙ has_no before (record { key = k; value = value }) is_events_heading other, holds.2)

-- Where a line before was one too many.
refused_step : (k : Key) (value : List ℕ) (s : Section) (before : List Line) (why : ScriptRefusal) (r : Reading) → HoldsBy (Some why) s before r →
    HoldsBy (Some why) (section_at k s) (before ++ record { key = k; value = value } ∷ []) (keyed_step k value r)
refused_step (key.Heading section.Events) value s before why r holds = (refl, has_yes before (record { key = key.Heading section.Events; value = value }) is_events_heading refl, holds.2)
refused_step (key.Heading section.Info) value s before why r holds = (refl, holds.1 ∙ has_no before (record { key = key.Heading section.Info; value = value }) is_events_heading refl, holds.2)
refused_step (key.Heading section.Other) value s before why r holds = (refl, holds.1 ∙ has_no before (record { key = key.Heading section.Other; value = value }) is_events_heading refl, holds.2)
refused_step (key.Heading (section.Styles V4)) value s before why r holds = (refl, holds.1 ∙ has_no before (record { key = key.Heading (section.Styles V4); value = value }) is_events_heading refl, holds.2)
refused_step (key.Heading (section.Styles V4Plus)) value s before why r holds = (refl, holds.1 ∙ has_no before (record { key = key.Heading (section.Styles V4Plus); value = value }) is_events_heading refl, holds.2)
refused_step key.ResX value s before why r holds = stays key.ResX value s before why r refl holds
refused_step key.ResY value s before why r holds = stays key.ResY value s before why r refl holds
refused_step key.Wrap value s before why r holds = stays key.Wrap value s before why r refl holds
refused_step key.Scaled value s before why r holds = stays key.Scaled value s before why r refl holds
refused_step key.Matrix value s before why r holds = stays key.Matrix value s before why r refl holds
refused_step (key.StyleFormat version) value s before why r holds = stays (key.StyleFormat version) value s before why r refl holds
refused_step (key.Style version) value s before why r holds = stays (key.Style version) value s before why r refl holds
refused_step key.EventFormat value s before why r holds = stays key.EventFormat value s before why r refl holds
refused_step key.Dialogue value s before why r holds = stays key.Dialogue value s before why r refl holds
refused_step key.Other value s before why r holds = stays key.Other value s before why r refl holds

keyed_holds : (k : Key) (value : List ℕ) (s : Section) (before : List Line) (r : Reading) → Holds s before r → Holds (section_at k s) (before ++ record { key = k; value = value } ∷ []) (keyed_step k value r)
keyed_holds k value s before r holds =
    subst (λ (o : Option ScriptRefusal). HoldsBy o (section_at k s) (before ++ record { key = k; value = value } ∷ []) (keyed_step k value r)) (sym (limit_more before (record { key = k; value = value })))
    (cases (limit_behind [] before) holds)
  where
    cases : (o : Option ScriptRefusal) → HoldsBy o s before r → HoldsBy (option_or o (limit_at before (record { key = k; value = value }))) (section_at k s) (before ++ record { key = k; value = value } ∷ []) (keyed_step k value r)
    cases None is = subst (λ (q : Reading). HoldsBy (limit_at before (record { key = k; value = value })) (section_at k s) (before ++ record { key = k; value = value } ∷ []) (keyed_step k value q)) (sym is) (picked_step k value s before)
    cases (Some why) is = refused_step k value s before why r is

-- ---- the section behind a line

-- A key that is no heading: the section stays.
record IsPlain (k : Key) : Type 0 where
  stays : (s : Section) → section_at k s ≡ s

plain_if : (b : Bool) (x y : Key) → IsPlain x → IsPlain y → IsPlain (cond b x y)
plain_if true x y first second = first
plain_if false x y first second = second

info_plain : (word : List ℕ) → IsPlain (info_key_named word)
unfolding info_key_named
info_plain word =
    plain_if _ key.ResX _ (record { stays = λ s. refl })
    (plain_if _ key.ResY _ (record { stays = λ s. refl })
    (plain_if _ key.Wrap _ (record { stays = λ s. refl })
    (plain_if _ key.Scaled _ (record { stays = λ s. refl })
    (plain_if _ key.Matrix key.Other (record { stays = λ s. refl }) (record { stays = λ s. refl })))))

style_plain : (version : Version) (word : List ℕ) → IsPlain (style_key_named version word)
unfolding style_key_named
style_plain version word = plain_if _ (key.Style version) _ (record { stays = λ s. refl }) (plain_if _ (key.StyleFormat version) key.Other (record { stays = λ s. refl }) (record { stays = λ s. refl }))

event_plain : (word : List ℕ) → IsPlain (event_key_named word)
unfolding event_key_named
event_plain word = plain_if _ key.Dialogue _ (record { stays = λ s. refl }) (plain_if _ key.EventFormat key.Other (record { stays = λ s. refl }) (record { stays = λ s. refl }))

named_plain : (t : Section) (word : List ℕ) → IsPlain (key_named t word)
named_plain section.Info word = info_plain word
named_plain (section.Styles version) word = style_plain version word
named_plain section.Events word = event_plain word
named_plain section.Other word = record { stays = λ s. refl }

keyed_plain : (t : Section) (text : List ℕ) → IsPlain (keyed_line t text).key
unfolding keyed_line
keyed_plain t text = commented (is_comment text) _ (cases (list_any is_colon text))
  where
    commented : (b : Bool) (rest : Line) → IsPlain rest.key → IsPlain (cond {A = Line} b (record { key = key.Other; value = [] }) rest).key
    commented true rest plain = record { stays = λ s. refl }
    commented false rest plain = plain

    cases : (b : Bool) → IsPlain (cond {A = Line} b (record { key = key_named t (trimmed (before_first is_colon text)); value = after_first is_colon text }) (record { key = key.Other; value = [] })).key
    cases true = named_plain t (trimmed (before_first is_colon text))
    cases false = record { stays = λ s. refl }

line_section : (s : Section) (text : List ℕ) → section_at (line_in s text).key s ≡ section_behind s text
line_section s text = cases (is_heading text)
  where
    cases : (b : Bool) → section_at (cond {A = Line} b (record { key = key.Heading (section_named (trimmed text)); value = [] }) (keyed_line s text)).key s ≡ cond b (section_named (trimmed text)) s
    cases true = refl
    cases false = (keyed_plain s text).stays s

-- ---- all lines

holds_section : (s : Section) (before : List Line) (r : Reading) → Holds s before r → r.section ≡ s
holds_section s before r holds = cases (limit_behind [] before) holds
  where
    cases : (o : Option ScriptRefusal) → HoldsBy o s before r → r.section ≡ s
    cases None is = ap (λ (q : Reading). q.section) is
    cases (Some why) is = is.0

line_holds : (s : Section) (before : List Line) (r : Reading) (text : List ℕ) → Holds s before r → Holds (section_behind s text) (before ++ line_in s text ∷ []) (line_step text r)
line_holds s before r text holds =
    let k = (line_in s text).key in
    let step : line_step text r ≡ keyed_step k (line_in s text).value r = ap (λ (t : Section). keyed_step (line_in t text).key (line_in t text).value r) (holds_section s before r holds) in
    subst (λ (q : Reading). Holds (section_behind s text) (before ++ line_in s text ∷ []) q) (sym step)
    (subst (λ (t : Section). Holds t (before ++ line_in s text ∷ []) (keyed_step k (line_in s text).value r)) (line_section s text) (keyed_holds k (line_in s text).value s before r holds))

made_is : (s : Section) (before : List Line) (r : Reading) → Holds s before r → made_script r ≡ script_of_lines before
made_is s before r holds = cases (limit_behind [] before) holds
  where
    cases : (o : Option ScriptRefusal) → HoldsBy o s before r → made_script r ≡ cond (has is_events_heading before) (option_map_or Err o (Ok (picked_script before))) (Err refusal.NoEvents)
    cases None is = ap made_script is
    cases (Some why) is = λ i. cond (is.1 i) (option_map_or Err (is.2 i) (Ok (script_said r))) (Err refusal.NoEvents)

walked_is : (texts : List (List ℕ)) (s : Section) (before : List Line) (r : Reading) → Holds s before r → made_script (walked texts r) ≡ script_of_lines (before ++ lines_in_sections s texts)
unfolding walked
walked_is [] s before r holds = made_is s before r holds ∙ ap script_of_lines (sym (append-nil before))
walked_is (text ∷ texts) s before r holds =
    walked_is texts (section_behind s text) (before ++ line_in s text ∷ []) (line_step text r) (line_holds s before r text holds)
    ∙ ap script_of_lines (append_assoc before (line_in s text ∷ []) (lines_in_sections (section_behind s text) texts))

pub read_is : (texts : List (List ℕ)) → made_script (walked texts no_script_lines) ≡ script_of_lines (lines_in_sections section.Other texts)
read_is texts = walked_is texts section.Other [] no_script_lines refl

pub walk_on : (text : List ℕ) (rest : List (List ℕ)) (r next : Reading) (wanted : Reading) → next ≡ line_step text r → walked (text ∷ rest) r ≡ wanted → walked rest next ≡ wanted
unfolding walked
walk_on text rest r next wanted step left = ap (λ (q : Reading). walked rest q) step ∙ left

pub walk_end : (r wanted : Reading) → walked [] r ≡ wanted → r ≡ wanted
unfolding walked
walk_end r wanted left = left
