-- Inner: what one line does to what was read of the lines before it. Private functions cite this; what a script is stands in Scripts.
use Rattle.std.specs.Prelude.{ℕ, nat_le, true, false, ◌&&◌, not, if◌then◌else◌, List, [], ◌∷◌, ◌++◌, length, Some, None, is_some, Result, Ok, Err}
use Rattle.std.specs.Option.{option_map_or}
use Rattle.ass_script.specs.Limits.{max_lines, max_styles}
use Rattle.ass_script.specs.Fields.{style_fields_of, usual_style_fields, event_fields_of, usual_event_fields, ends_in_text}
use Rattle.ass_script.specs.Styles.{style_of}
use Rattle.ass_script.specs.Matrices.{matrix_of}
use Rattle.ass_script.specs.Lines.{line_in}
use Rattle.ass_script.specs.Scripts.{ScriptValue, canvas_side_of, wrap_style_of, scaled_of, width_of, canvas_height}
use Rattle.ass_script.specs.declared.lines.Version.{Version}
use Rattle.ass_script.specs.declared.lines.Version.TheVariants.{V4, V4Plus}
use Rattle.ass_script.specs.declared.lines.Section.{Section}
use Rattle.ass_script.specs.declared.lines.Section.TheVariants as section
use Rattle.ass_script.specs.declared.lines.Key.{Key}
use Rattle.ass_script.specs.declared.lines.Key.TheVariants as key
use Rattle.ass_script.specs.declared.header_lines.HeaderLines.{HeaderLines}
use Rattle.ass_script.specs.declared.matrix.ScriptMatrix.TheVariants.{Unsaid}
use Rattle.ass_script.specs.declared.script.Header.{Header}
use Rattle.ass_script.specs.declared.script.EventField.{EventField}
use Rattle.ass_script.specs.declared.style_field.StyleField.{StyleField}
use Rattle.ass_script.specs.declared.reading.Reading.{Reading}
use Rattle.ass_script.specs.declared.reading.Headings.{Headings}
use Rattle.ass_script.specs.declared.refusal.ScriptRefusal.{ScriptRefusal}
use Rattle.ass_script.specs.declared.refusal.ScriptRefusal.TheVariants as refusal

abbrev pub no_header_lines : HeaderLines
no_header_lines = record { res_x = None; res_y = None; wrap = 0; scaled = false; matrix = Unsaid }

abbrev pub made_header : HeaderLines → Header
made_header h = record { res_x = width_of h.res_x h.res_y; res_y = canvas_height h.res_x h.res_y; wrap = h.wrap; scaled = h.scaled; matrix = h.matrix }

abbrev pub header_lines_after : Key → List ℕ → HeaderLines → HeaderLines
header_lines_after key.ResX value h = record h { res_x = canvas_side_of value }
header_lines_after key.ResY value h = record h { res_y = canvas_side_of value }
header_lines_after key.Wrap value h = record h { wrap = wrap_style_of value }
header_lines_after key.Scaled value h = record h { scaled = scaled_of value }
header_lines_after key.Matrix value h = record h { matrix = matrix_of value }
header_lines_after _ value h = h

-- ---- headings

abbrev pub no_headings : Headings
no_headings = record { events = false; styles = false; old_styles = false }

abbrev pub with_heading : Section → Headings → Headings
with_heading section.Events h = record h { events = true }
with_heading (section.Styles V4Plus) h = record h { styles = true }
with_heading (section.Styles V4) h = record h { old_styles = true }
with_heading section.Info h = h
with_heading section.Other h = h

abbrev pub version_said : Headings → Version
version_said h = if h.old_styles && not h.styles then V4 else V4Plus

-- ---- lines

abbrev pub no_script_lines : Reading
no_script_lines = record { section = section.Other; headings = no_headings; header = no_header_lines; fields = None; old_fields = None; styles = []; format = None; lines = []; refusal = None }

abbrev pub fields_of : Version → Reading → List StyleField
fields_of V4 r = option_map_or (λ fields. fields) r.old_fields (usual_style_fields V4)
fields_of V4Plus r = option_map_or (λ fields. fields) r.fields (usual_style_fields V4Plus)

abbrev pub format_step : Version → List ℕ → Reading → Reading
format_step V4 value r = record r { old_fields = Some (style_fields_of V4 value) }
format_step V4Plus value r = record r { fields = Some (style_fields_of V4Plus value) }

abbrev pub style_step : Version → List ℕ → Reading → Reading
style_step version value r =
    if nat_le max_styles (length r.styles) then record r { refusal = Some (refusal.TooManyStyles max_styles) }
    else record r { styles = r.styles ++ style_of version (fields_of version r) value ∷ [] }

abbrev pub event_format_step : List ℕ → Reading → Reading
event_format_step value r = if ends_in_text (event_fields_of value) then record r { format = Some (event_fields_of value) } else r

abbrev pub dialogue_step : List ℕ → Reading → Reading
dialogue_step value r =
    if nat_le max_lines (length r.lines) then record r { refusal = Some (refusal.TooManyLines max_lines) }
    else record r { lines = r.lines ++ value ∷ [] }

-- a line that is no heading
abbrev pub key_step : Key → List ℕ → Reading → Reading
key_step (key.StyleFormat version) value r = format_step version value r
key_step (key.Style version) value r = style_step version value r
key_step key.EventFormat value r = event_format_step value r
key_step key.Dialogue value r = dialogue_step value r
key_step (key.Heading _) value r = r
key_step key.Other value r = r
key_step k value r = record r { header = header_lines_after k value r.header }

abbrev pub keyed_step : Key → List ℕ → Reading → Reading
keyed_step (key.Heading s) value r = record r { section = s; headings = with_heading s r.headings }
keyed_step k value r = if is_some r.refusal then r else key_step k value r

-- a line, after the lines before it
abbrev pub line_step : List ℕ → Reading → Reading
line_step text r = keyed_step (line_in r.section text).key (line_in r.section text).value r

-- all lines, one after another
unfoldable pub walked : List (List ℕ) → Reading → Reading
walked [] r = r
walked (text ∷ texts) r = walked texts (line_step text r)

-- ---- the script

abbrev pub fields_said : Reading → List EventField
fields_said r = option_map_or (λ fields. fields) r.format (usual_event_fields (version_said r.headings))

abbrev pub script_said : Reading → ScriptValue
script_said r = record { header = made_header r.header; styles = r.styles; format = fields_said r; lines = r.lines }

abbrev pub made_script : Reading → Result ScriptValue ScriptRefusal
made_script r = if r.headings.events then option_map_or Err r.refusal (Ok (script_said r)) else Err refusal.NoEvents
