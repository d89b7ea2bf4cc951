-- Public: the report of a check as a line of JSON (docs/PROGRAM.md).
use Rattle.std.specs.Prelude.{ℕ, List, [], ◌∷◌, ◌++◌, codes, flat_map, length, Option, Some, None}
use Rattle.std.specs.List.{range_with_len}
use Rattle.json.specs.Token.{Token, begin_array, end_array, key}
use Rattle.json_lines.specs.Members.{json_line, number_array, number_member, object_of, text_member}
use Rattle.ass_script.specs.Scripts.{ScriptValue}
use Rattle.ass_script.specs.declared.script.EventField.{EventField}
use Rattle.ass_events.specs.Events.{line_fault}
use Rattle.bdf_font.specs.Fonts.{FontValue}
use Rattle.run_status.specs.Fields.{field_name}
use Rattle.run_words.specs.declared.report_words.ReportForm.{ReportForm}
use Rattle.run_words.specs.declared.report_words.ReportForm.TheVariants.{Text, Json, Silent}
use Rattle.single_run.specs.CheckReports.{check_text}

-- the script's resolution, styles and Dialogue lines
abbrev pub head_members : ScriptValue → List Token
head_members script =
    key (codes "play") ∷ number_array (script.header.res_x ∷ script.header.res_y ∷ []) ++ number_member (codes "styles") (length script.styles)
    ++ number_member (codes "lines") (length script.lines)

-- the Dialogue line at `i`, if its fields can't all be read
abbrev pub malformed_object : ℕ → Option (EventField × ℕ) → List Token
malformed_object i (Some (f, place)) =
    object_of (number_member (codes "line") i ++ text_member (codes "field") (field_name f) ++ number_member (codes "byte") place)
malformed_object i None = []

abbrev pub malformed_objects : ScriptValue → List Token
malformed_objects script = flat_map (λ i. malformed_object i (line_fault script i)) (range_with_len 0 (length script.lines))

-- all malformed Dialogue lines, in order
abbrev pub malformed_member : ScriptValue → List Token
malformed_member script = key (codes "malformed") ∷ begin_array ∷ malformed_objects script ++ end_array ∷ []

abbrev pub font_object : FontValue → List Token
font_object font = object_of (number_member (codes "glyphs") (length font.glyphs))

-- the fonts, in order
abbrev pub fonts_member : List FontValue → List Token
fonts_member fonts = key (codes "fonts") ∷ begin_array ∷ flat_map font_object fonts ++ end_array ∷ []

-- the report on a script and fonts
abbrev pub check_json : ScriptValue → List FontValue → List ℕ
check_json script fonts = json_line (object_of (head_members script ++ malformed_member script ++ fonts_member fonts))

-- the report in a form
abbrev pub check_in : ReportForm → ScriptValue → List FontValue → List ℕ
check_in Text script fonts = check_text script fonts
check_in Json script fonts = check_json script fonts
check_in Silent script fonts = []
