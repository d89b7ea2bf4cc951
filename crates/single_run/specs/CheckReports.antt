-- Public: the report of a check (docs/PROGRAM.md).
use Rattle.std.specs.Prelude.{ℕ, ◌+◌, List, [], ◌∷◌, ◌++◌, codes, decimal, flat_map, length, Option, Some, None}
use Rattle.std.specs.List.{range_with_len}
use Rattle.ass_script.specs.Scripts.{ScriptValue}
use Rattle.ass_script.specs.declared.script.EventField.{EventField}
use Rattle.ass_events.specs.Events.{line_fault}
use Rattle.bdf_font.specs.Fonts.{FontValue}
use Rattle.run_status.specs.Fields.{field_name}

-- the lines on the script's resolution, styles and Dialogue lines
abbrev pub head_lines : ScriptValue → List ℕ
head_lines script =
    codes "play " ++ decimal script.header.res_x ++ codes " " ++ decimal script.header.res_y
    ++ codes "\nstyles " ++ decimal (length script.styles) ++ codes "\nlines " ++ decimal (length script.lines) ++ codes "\n"

-- the line on the Dialogue line at `i`, if its fields can't all be read
abbrev pub malformed_line : ℕ → Option (EventField × ℕ) → List ℕ
malformed_line i (Some (f, place)) = codes "malformed " ++ decimal i ++ codes " " ++ field_name f ++ codes " " ++ decimal place ++ codes "\n"
malformed_line i None = []

-- the lines on all malformed Dialogue lines, in order
abbrev pub malformed_lines : ScriptValue → List ℕ
malformed_lines script = flat_map (λ i. malformed_line i (line_fault script i)) (range_with_len 0 (length script.lines))

-- the line on the font at `i`
abbrev pub font_report : ℕ → FontValue → List ℕ
font_report i font = codes "font " ++ decimal i ++ codes " glyphs " ++ decimal (length font.glyphs) ++ codes "\n"

-- the lines on fonts, the first of which has the place `i`
abbrev pub font_reports : ℕ → List FontValue → List ℕ
font_reports i [] = []
font_reports i (font ∷ fonts) = font_report i font ++ font_reports (i + 1) fonts

-- the report on a script and fonts
unfoldable pub check_text : ScriptValue → List FontValue → List ℕ
check_text script fonts = head_lines script ++ malformed_lines script ++ font_reports 0 fonts
