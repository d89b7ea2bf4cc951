-- A generated script is read.
use Rattle.std.proofs.Common.{◌≡◌, ℕ, zero, suc, ◌+◌, ◌*◌, ◌≤◌, true, false, List, [], ◌∷◌, ◌++◌, length, map, Ok, refl, sym, ap, ◌∙◌, arith, length-append}
use Rattle.std.specs.Prelude.{codes, flat_map}
use Rattle.std.specs.List.{range_with_len}
use Rattle.std.specs.Str.Lines.{lines}
use Rattle.std.proofs.lemmas.List.FromFn.{length-range_with_len, length-map-range_with_len}
use Rattle.ass_script.specs.Fields.{usual_style_fields, usual_event_fields}
use Rattle.ass_script.specs.Limits.{max_lines}
use Rattle.ass_script.specs.Lines.{lines_in_sections}
use Rattle.ass_script.specs.Scripts.{ScriptValue, canvas_side_of, wrap_style_of, script_of_lines, script_of}
use Rattle.ass_script.specs.Styles.{style_of}
use Rattle.ass_script.specs.Walk.{walked, no_header_lines, no_script_lines, made_header, made_script}
use Rattle.ass_script.specs.Words.{past_mark}
use Rattle.ass_script.specs.declared.header_lines.HeaderLines.{HeaderLines}
use Rattle.ass_script.specs.declared.matrix.ScriptMatrix.TheVariants.{Unsaid}
use Rattle.ass_script.specs.declared.lines.Section.TheVariants as section
use Rattle.ass_script.specs.declared.lines.Version.TheVariants.{V4Plus}
use Rattle.ass_script.specs.declared.reading.Reading.{Reading}
use Rattle.ass_script.specs.declared.style.Style.{Style}
use Rattle.ass_script.proofs.Refusals.{script_of_utf8}
use Rattle.ass_script.proofs.WalkLemmas.{read_is}
use Rattle.generated_script.specs.Draws.{state_after_draws}
use Rattle.generated_script.specs.Generated.{header, generated, generated_line}
use Rattle.generated_script.specs.Lines.{line_numbers}
use Rattle.script_laws.specs.GeneratedLaws.{GeneratedScriptsAreRead, GeneratedScriptsFit}
use Rattle.script_laws.proofs.LineTexts.{line_value, line_ended, line_bytes, line_holds, drawn_small}
use Rattle.track_write.specs.Rows.{ended}
use Rattle.track_write.proofs.LineCuts.{AreLines, lines_append, lines_back, text_utf8}
use Rattle.track_write.proofs.LineReads.{info_heading, styles_heading, events_heading, type_line, width_line, height_line, wrap_line, style_said}
use Rattle.track_write.proofs.LinesHold.{plain_line}
use Rattle.track_write.proofs.Walks.{on, in_events, all_dialogues}

-- ---- the lines

abbrev style_value : List ℕ
style_value = codes "Default,grid,12,&H00FFFFFF,&H000000FF,&H00000000,&H80000000,0,0,0,0,100,100,0,0,1,1,1,2,8,8,8,1"

abbrev first_lines : List (List ℕ)
first_lines =
    codes "[Script Info]" ∷ codes "ScriptType: v4.00+" ∷ codes "PlayResX: 320" ∷ codes "PlayResY: 180" ∷ codes "WrapStyle: 0"
    ∷ codes "[V4+ Styles]" ∷ (codes "Style: " ++ style_value) ∷ codes "[Events]" ∷ []

-- what the line at place i says behind `Dialogue: `
abbrev pub generated_value : ℕ → ℕ → List ℕ
generated_value seed i = line_value i (line_numbers (state_after_draws (6 * i) seed))

abbrev dialogue_lines : ℕ → List ℕ → List (List ℕ)
dialogue_lines seed places = map (λ i. codes "Dialogue: " ++ generated_value seed i) places

abbrev all_texts : ℕ → ℕ → List (List ℕ)
all_texts seed events = first_lines ++ dialogue_lines seed (range_with_len 0 events)

lines_ended : (seed : ℕ) (places : List ℕ) → flat_map (generated_line seed) places ≡ flat_map ended (dialogue_lines seed places)
lines_ended seed [] = refl
lines_ended seed (i ∷ places) =
    ap (λ z. z ++ flat_map (generated_line seed) places) (line_ended i (line_numbers (state_after_draws (6 * i) seed)))
    ∙ ap (λ z. ended (codes "Dialogue: " ++ generated_value seed i) ++ z) (lines_ended seed places)

header_ended : (rest : List (List ℕ)) → header ++ flat_map ended rest ≡ flat_map ended (first_lines ++ rest)
header_ended rest = refl

text_ended : (seed events : ℕ) → generated seed events ≡ flat_map ended (all_texts seed events)
text_ended seed events = ap (λ z. header ++ z) (lines_ended seed (range_with_len 0 events)) ∙ header_ended (dialogue_lines seed (range_with_len 0 events))

first_hold : AreLines first_lines
first_hold = (
  plain_line (codes "[Script Info]") refl refl,
  (
    plain_line (codes "ScriptType: v4.00+") refl refl,
    (
      plain_line (codes "PlayResX: 320") refl refl,
      (
        plain_line (codes "PlayResY: 180") refl refl,
        (
          plain_line (codes "WrapStyle: 0") refl refl,
          (plain_line (codes "[V4+ Styles]") refl refl, (plain_line (codes "Style: " ++ style_value) refl refl, (plain_line (codes "[Events]") refl refl, tt))),
        ),
      ),
    ),
  ),
)

dialogues_hold : (seed start n : ℕ) → start + n ≤ max_lines → AreLines (dialogue_lines seed (range_with_len start n))
dialogues_hold seed start zero few = tt
dialogues_hold seed start (suc n) few =
    let state = state_after_draws (6 * start) seed in
    (line_holds start (line_numbers state) (omega arith) (drawn_small state), dialogues_hold seed (start + 1) n (omega arith))

-- ---- the walk

abbrev generated_header : HeaderLines
generated_header = record { res_x = canvas_side_of (codes " 320"); res_y = canvas_side_of (codes " 180"); wrap = wrap_style_of (codes " 0"); scaled = false; matrix = Unsaid }

abbrev generated_style : Style
generated_style = style_of V4Plus (usual_style_fields V4Plus) (32 ∷ style_value)

-- in the header, behind what it said
abbrev in_info : HeaderLines → Reading
in_info said = record no_script_lines { section = section.Info; header = said }

-- in the styles, behind these
abbrev in_styles : List Style → Reading
in_styles styles = record no_script_lines {
  section = section.Styles V4Plus;
  headings = record { events = false; styles = true; old_styles = false };
  header = generated_header;
  styles = styles;
}

abbrev behind_styles : Reading
behind_styles = record (in_styles (generated_style ∷ [])) { section = section.Events; headings = record { events = true; styles = true; old_styles = false } }

header_walked : (texts : List (List ℕ)) →
    walked (codes "[Script Info]" ∷ codes "ScriptType: v4.00+" ∷ codes "PlayResX: 320" ∷ codes "PlayResY: 180" ∷ codes "WrapStyle: 0" ∷ texts) no_script_lines ≡ walked texts (in_info generated_header)
header_walked texts =
    let width : HeaderLines = record no_header_lines { res_x = canvas_side_of (codes " 320") } in
    let height : HeaderLines = record width { res_y = canvas_side_of (codes " 180") } in
    on (codes "[Script Info]") _ section.Other _ _ no_script_lines (in_info no_header_lines) refl info_heading refl
    ∙ on (codes "ScriptType: v4.00+") _ section.Info _ _ (in_info no_header_lines) (in_info no_header_lines) refl type_line refl
    ∙ on (codes "PlayResX: 320") _ section.Info _ _ (in_info no_header_lines) (in_info width) refl (width_line (codes "320")) refl
    ∙ on (codes "PlayResY: 180") _ section.Info _ _ (in_info width) (in_info height) refl (height_line (codes "180")) refl
    ∙ on (codes "WrapStyle: 0") texts section.Info _ _ (in_info height) (in_info generated_header) refl (wrap_line (codes "0")) refl

styles_walked : (texts : List (List ℕ)) → walked (codes "[V4+ Styles]" ∷ (codes "Style: " ++ style_value) ∷ codes "[Events]" ∷ texts) (in_info generated_header) ≡ walked texts (in_events behind_styles [])
styles_walked texts =
    on (codes "[V4+ Styles]") _ section.Info _ _ (in_info generated_header) (in_styles []) refl styles_heading refl
    ∙ on (codes "Style: " ++ style_value) _ (section.Styles V4Plus) _ _ (in_styles []) (in_styles (generated_style ∷ [])) refl (style_said style_value) refl
    ∙ on (codes "[Events]") texts (section.Styles V4Plus) _ _ (in_styles (generated_style ∷ [])) (in_events behind_styles []) refl events_heading refl

-- what is read
abbrev pub generated_script : ℕ → ℕ → ScriptValue
generated_script seed events = record {
  header = made_header generated_header;
  styles = generated_style ∷ [];
  format = usual_event_fields V4Plus;
  lines = map (λ i. 32 ∷ generated_value seed i) (range_with_len 0 events);
}

all_walked : (seed events : ℕ) → events ≤ max_lines → made_script (walked (all_texts seed events) no_script_lines) ≡ Ok (generated_script seed events)
all_walked seed events few =
    let texts = dialogue_lines seed (range_with_len 0 events) in
    ap made_script (header_walked (codes "[V4+ Styles]" ∷ (codes "Style: " ++ style_value) ∷ codes "[Events]" ∷ texts)
    ∙ styles_walked texts
    ∙ all_dialogues (generated_value seed) behind_styles [] (range_with_len 0 events) (omega (arith, length-range_with_len 0 events)))

-- ---- the text

no_mark : (rest : List ℕ) → past_mark (header ++ rest) ≡ header ++ rest
unfolding past_mark
no_mark rest = refl

pub script_generated : (seed events : ℕ) → events ≤ max_lines → script_of (generated seed events) ≡ Ok (generated_script seed events)
script_generated seed events few =
    let texts = all_texts seed events in
    let each : AreLines texts = lines_append first_lines (dialogue_lines seed (range_with_len 0 events)) first_hold (dialogues_hold seed 0 events (omega arith)) in
    ap script_of (text_ended seed events)
    ∙ script_of_utf8 (flat_map ended texts) (text_utf8 texts each)
    ∙ ap (λ t. script_of_lines (lines_in_sections section.Other (lines t))) (no_mark (flat_map ended (dialogue_lines seed (range_with_len 0 events))))
    ∙ ap (λ all. script_of_lines (lines_in_sections section.Other all)) (lines_back texts each)
    ∙ sym (read_is texts)
    ∙ all_walked seed events few

pub generated_read : GeneratedScriptsAreRead
generated_read seed events few =
    (generated_script seed events, script_generated seed events few, length-map-range_with_len (λ i. 32 ∷ generated_value seed i) 0 events)

-- ---- its length

lines_bytes : (seed start n : ℕ) → start + n ≤ max_lines → length (flat_map (generated_line seed) (range_with_len start n)) ≤ 116 * n
lines_bytes seed start zero few = omega arith
lines_bytes seed start (suc n) few =
    omega (arith, length-append (generated_line seed start) (flat_map (generated_line seed) (range_with_len (start + 1) n)), line_bytes start (line_numbers (state_after_draws (6 * start) seed)) (omega arith) (drawn_small (state_after_draws (6 * start) seed)), lines_bytes seed (start + 1) n (omega arith))

header_bytes : length header ≡ 199
header_bytes = refl

pub generated_fits : GeneratedScriptsFit
generated_fits seed events few = omega (arith, length-append header (flat_map (generated_line seed) (range_with_len 0 events)), header_bytes, lines_bytes seed 0 events (omega arith))
