-- Public: the script that a text spells: what is picked from the list of all its lines.
use Rattle.std.specs.Prelude.{◌≡◌, ℕ, ◌+◌, ◌*◌, ◌/◌, min, max, ◌==◌, ◌&&◌, ◌||◌, nat_le, not, Bool, true, false, if◌then◌else◌, List, [], ◌∷◌, ◌++◌, length, map, filter, codes, Option, Some, None, option_and_then, unwrap_or, slice_get, Result, Ok, Err, ℤ, pos, negsuc, int_lt}
use Rattle.std.specs.List.{list_any}
use Rattle.std.specs.Option.{option_or, option_map_or}
use Rattle.std.specs.Str.{bytes_eq}
use Rattle.std.specs.Str.Lines.{lines}
use Rattle.std.specs.Str.Lossy.{utf8_valid_len}
use Rattle.ass_num.specs.Blanks.{trimmed}
use Rattle.ass_script.specs.Limits.{max_canvas_side, max_lines, max_styles}
use Rattle.ass_num.specs.Names.{same_name}
use Rattle.ass_script.specs.Words.{past_mark, bare_name}
use Rattle.ass_num.specs.Wholes.{whole_of}
use Rattle.ass_script.specs.Fields.{style_fields_of, usual_style_fields, event_fields_of, usual_event_fields, ends_in_text}
use Rattle.ass_script.specs.Styles.{built_in_style, style_of}
use Rattle.ass_script.specs.Matrices.{matrix_of}
use Rattle.ass_script.specs.Lines.{Line, lines_in_sections}
use Rattle.ass_script.specs.declared.lines.Version.{Version}
use Rattle.ass_script.specs.declared.lines.Version.TheVariants.{V4, V4Plus}
use Rattle.ass_script.specs.declared.lines.Section.TheVariants as section
use Rattle.ass_script.specs.declared.lines.Key.{Key}
use Rattle.ass_script.specs.declared.lines.Key.TheVariants as key
use Rattle.ass_script.specs.declared.matrix.ScriptMatrix.TheVariants.{Unsaid}
use Rattle.ass_script.specs.declared.script.Header.{Header}
use Rattle.ass_script.specs.declared.script.EventField.{EventField}
use Rattle.ass_script.specs.declared.style.Style.{Style}
use Rattle.ass_script.specs.declared.style_field.StyleField.{StyleField}
use Rattle.ass_script.specs.declared.refusal.ScriptRefusal.{ScriptRefusal}
use Rattle.ass_script.specs.declared.refusal.ScriptRefusal.TheVariants as refusal

-- A script: header, styles in the order of the text, the fields of event lines, and what stands behind `Dialogue:`.
pub record ScriptValue : Type 0 where
  pub header : Header
  pub styles : List Style
  pub format : List EventField
  pub lines : List (List ℕ)

-- ---- kinds of lines

abbrev pub is_res_x : Key → Bool
is_res_x key.ResX = true
is_res_x _ = false

abbrev pub is_res_y : Key → Bool
is_res_y key.ResY = true
is_res_y _ = false

abbrev pub is_wrap : Key → Bool
is_wrap key.Wrap = true
is_wrap _ = false

abbrev pub is_scaled : Key → Bool
is_scaled key.Scaled = true
is_scaled _ = false

abbrev pub is_matrix : Key → Bool
is_matrix key.Matrix = true
is_matrix _ = false

abbrev pub is_dialogue : Key → Bool
is_dialogue key.Dialogue = true
is_dialogue _ = false

abbrev pub is_event_format : Key → Bool
is_event_format key.EventFormat = true
is_event_format _ = false

-- the version of the section in which a Style line stands
abbrev pub style_version : Key → Option Version
style_version (key.Style version) = Some version
style_version _ = None

abbrev pub is_style : Key → Bool
is_style (key.Style _) = true
is_style _ = false

-- a Format line of the styles of a version
abbrev pub is_style_format : Version → Key → Bool
is_style_format V4 (key.StyleFormat V4) = true
is_style_format V4Plus (key.StyleFormat V4Plus) = true
is_style_format _ _ = false

abbrev pub is_events_heading : Key → Bool
is_events_heading (key.Heading section.Events) = true
is_events_heading _ = false

abbrev pub is_styles_heading : Version → Key → Bool
is_styles_heading V4 (key.Heading (section.Styles V4)) = true
is_styles_heading V4Plus (key.Heading (section.Styles V4Plus)) = true
is_styles_heading _ _ = false

-- some line is of the kind
abbrev pub has : (Key → Bool) → List Line → Bool
has kind all = list_any (λ line. kind line.key) all

-- the values of the lines of a kind, in order
abbrev pub values_of : (Key → Bool) → List Line → List (List ℕ)
values_of kind all = map (λ line. line.value) (filter (λ line. kind line.key) all)

-- the last of some values
abbrev pub last_of : {X : Type 0} → List X → Option X
last_of [] = None
last_of (x ∷ xs) = option_or (last_of xs) (Some x)

-- the value of the last line of a kind
abbrev pub last_value : (Key → Bool) → List Line → Option (List ℕ)
last_value kind all = last_of (values_of kind all)

-- ---- the header

abbrev pub canvas_side_in : ℤ → Option ℕ
canvas_side_in (pos n) = if nat_le 1 n && nat_le n max_canvas_side then Some n else None
canvas_side_in (negsuc n) = None

-- a whole number from 1 to 16,384
unfoldable pub canvas_side_of : List ℕ → Option ℕ
canvas_side_of value = option_and_then canvas_side_in (whole_of value)

abbrev pub wrap_in : ℤ → ℕ
wrap_in (pos n) = if nat_le n 3 then n else 0
wrap_in (negsuc n) = 0

-- a whole number from 0 to 3, or else 0
unfoldable pub wrap_style_of : List ℕ → ℕ
wrap_style_of value = option_map_or wrap_in (whole_of value) 0

-- `yes` without regard to ASCII case, or a whole number above 0
unfoldable pub scaled_of : List ℕ → Bool
scaled_of value = same_name (trimmed value) (codes "yes") || option_map_or (λ n. int_lt (pos 0) n) (whole_of value) false

-- the width where the width and the height that the script says may be missing
abbrev pub width_of : Option ℕ → Option ℕ → ℕ
width_of (Some x) y = x
width_of None (Some y) = if y == 1024 then 1280 else min (y * 4 / 3) max_canvas_side
width_of None None = 384

abbrev pub canvas_height : Option ℕ → Option ℕ → ℕ
canvas_height x (Some y) = y
canvas_height (Some x) None = if x == 1280 then 1024 else max (x * 3 / 4) 1
canvas_height None None = 288

abbrev pub header_of : List Line → Header
header_of all =
    let x = option_and_then canvas_side_of (last_value is_res_x all) in
    let y = option_and_then canvas_side_of (last_value is_res_y all) in
    record {
      res_x = width_of x y;
      res_y = canvas_height x y;
      wrap = option_map_or wrap_style_of (last_value is_wrap all) 0;
      scaled = option_map_or scaled_of (last_value is_scaled all) false;
      matrix = option_map_or matrix_of (last_value is_matrix all) Unsaid;
    }

-- ---- styles

-- the fields of Style lines behind these lines: those of the last Format of their version, or else the usual ones
abbrev pub style_fields_behind : Version → List Line → List StyleField
style_fields_behind version before = option_map_or (style_fields_of version) (last_value (is_style_format version) before) (usual_style_fields version)

-- the style of a line, if it is a Style line, under the last Format before it
abbrev pub styles_at : List Line → Line → List Style
styles_at before line = option_map_or (λ version. style_of version (style_fields_behind version before) line.value ∷ []) (style_version line.key) []

-- the styles of some lines behind others
abbrev pub styles_behind : List Line → List Line → List Style
styles_behind before [] = []
styles_behind before (line ∷ all) = styles_at before line ++ styles_behind (before ++ line ∷ []) all

-- ---- events

-- the Formats that end in the text
abbrev pub event_formats : List Line → List (List EventField)
event_formats all = filter ends_in_text (map event_fields_of (values_of is_event_format all))

-- A script is old where it has a section `[V4 Styles]` and no section `[V4+ Styles]`.
abbrev pub version_of : List Line → Version
version_of all = if has (is_styles_heading V4) all && not (has (is_styles_heading V4Plus) all) then V4 else V4Plus

-- the fields of the last Format of the events that ends in the text, or else the usual ones of the script's version
abbrev pub event_fields_in : List Line → List EventField
event_fields_in all = option_map_or (λ fields. fields) (last_of (event_formats all)) (usual_event_fields (version_of all))

-- ---- the whole script

-- why a line is one too many behind others: a million Dialogue lines, or ten thousand styles, stand before it
abbrev pub limit_at : List Line → Line → Option ScriptRefusal
limit_at before line =
    if is_dialogue line.key && nat_le max_lines (length (values_of is_dialogue before)) then Some (refusal.TooManyLines max_lines)
    else if is_style line.key && nat_le max_styles (length (styles_behind [] before)) then Some (refusal.TooManyStyles max_styles)
    else None

-- the first line too many of some lines behind others
abbrev pub limit_behind : List Line → List Line → Option ScriptRefusal
limit_behind before [] = None
limit_behind before (line ∷ all) = option_or (limit_at before line) (limit_behind (before ++ line ∷ []) all)

abbrev pub picked_script : List Line → ScriptValue
picked_script all = record { header = header_of all; styles = styles_behind [] all; format = event_fields_in all; lines = values_of is_dialogue all }

-- the script of some lines: there must be events, and no line too many
abbrev pub script_of_lines : List Line → Result ScriptValue ScriptRefusal
script_of_lines all = if has is_events_heading all then option_map_or Err (limit_behind [] all) (Ok (picked_script all)) else Err refusal.NoEvents

-- the lines of a text, behind a byte order mark
abbrev pub lines_of : List ℕ → List Line
lines_of text = lines_in_sections section.Other (lines (past_mark text))

-- the script that bytes spell, or why they spell none
abbrev pub script_of : List ℕ → Result ScriptValue ScriptRefusal
script_of bytes = if utf8_valid_len bytes == length bytes then script_of_lines (lines_of bytes) else Err (refusal.NotUtf8 (utf8_valid_len bytes))

-- The answer is this one, unless memory ran out.
abbrev pub IsScriptAnswer : Result ScriptValue ScriptRefusal → Result ScriptValue ScriptRefusal → Type 0
IsScriptAnswer (Err refusal.OutOfMemory) wanted = Unit {0}
IsScriptAnswer (Ok script) wanted = wanted ≡ Ok script
IsScriptAnswer (Err (refusal.NotUtf8 n)) wanted = wanted ≡ Err (refusal.NotUtf8 n)
IsScriptAnswer (Err refusal.NoEvents) wanted = wanted ≡ Err refusal.NoEvents
IsScriptAnswer (Err (refusal.TooManyLines n)) wanted = wanted ≡ Err (refusal.TooManyLines n)
IsScriptAnswer (Err (refusal.TooManyStyles n)) wanted = wanted ≡ Err (refusal.TooManyStyles n)

-- ---- styles by name

-- the place of the last style of this name, where the first of the styles has the place n
abbrev pub last_named_from : ℕ → List ℕ → List Style → Option ℕ
last_named_from n name [] = None
last_named_from n name (style ∷ styles) = option_or (last_named_from (n + 1) name styles) (if bytes_eq style.name name then Some n else None)

abbrev pub last_named : List ℕ → List Style → Option ℕ
last_named name styles = last_named_from 0 name styles

-- The place of the style that a name means: the last one of that name, or else the last one named `Default`; where there is none, the built-in style counts.
abbrev pub style_place : List ℕ → List Style → Option ℕ
style_place name styles = option_or (last_named (bare_name name) styles) (last_named (codes "Default") styles)

-- the style that a name means
abbrev pub style_for : List ℕ → ScriptValue → Style
style_for name script = unwrap_or (option_and_then (slice_get script.styles) (style_place name script.styles)) built_in_style
