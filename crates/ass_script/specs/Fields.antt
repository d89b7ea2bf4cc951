-- Public: the fields that Format lines name.
use Rattle.std.specs.Prelude.{ℕ, ◌-◌, ◌==◌, Bool, false, if◌then◌else◌, List, [], ◌∷◌, length, map, slice_get, codes}
use Rattle.std.specs.Option.{option_map_or}
use Rattle.std.specs.List.{slice_split, list_any}
use Rattle.ass_num.specs.Blanks.{trimmed}
use Rattle.ass_num.specs.Names.{same_name}
use Rattle.ass_script.specs.Words.{is_comma}
use Rattle.ass_script.specs.declared.lines.Version.{Version}
use Rattle.ass_script.specs.declared.lines.Version.TheVariants.{V4, V4Plus}
use Rattle.ass_script.specs.declared.style_field.StyleField.{StyleField}
use Rattle.ass_script.specs.declared.style_field.StyleField.TheVariants as style
use Rattle.ass_script.specs.declared.script.EventField.{EventField}
use Rattle.ass_script.specs.declared.script.EventField.TheVariants as event

-- Of fields that stand twice the last counts; an earlier one is `other`. Two fields are one where their numbers are.
abbrev pub last_ones : {F : Type 0} → (F → ℕ) → F → List F → List F
last_ones number other [] = []
last_ones number other (field ∷ fields) = (if list_any (λ later. number later == number field) fields then other else field) ∷ last_ones number other fields

-- the names between the commas of a Format line
abbrev pub names_of : List ℕ → List (List ℕ)
names_of value = map trimmed (slice_split is_comma value)

-- ---- styles

abbrev pub style_field_number : StyleField → ℕ
style_field_number style.Name = 0
style_field_number style.Font = 1
style_field_number style.Size = 2
style_field_number style.PrimaryColour = 3
style_field_number style.SecondaryColour = 4
style_field_number style.OutlineColour = 5
style_field_number style.BackColour = 6
style_field_number style.Bold = 7
style_field_number style.Italic = 8
style_field_number style.Underline = 9
style_field_number style.Strikeout = 10
style_field_number style.ScaleX = 11
style_field_number style.ScaleY = 12
style_field_number style.Spacing = 13
style_field_number style.Angle = 14
style_field_number style.BorderStyle = 15
style_field_number style.Outline = 16
style_field_number style.Shadow = 17
style_field_number style.Alignment = 18
style_field_number style.OldAlignment = 19
style_field_number style.MarginL = 20
style_field_number style.MarginR = 21
style_field_number style.MarginV = 22
style_field_number style.Other = 23

-- In `[V4 Styles]` the outline has the back colour, there is no field for its own, and alignments are numbered otherwise.
abbrev pub version_field : Version → StyleField → StyleField
version_field V4Plus field = field
version_field V4 style.OutlineColour = style.Other
version_field V4 style.BackColour = style.OutlineColour
version_field V4 style.Alignment = style.OldAlignment
version_field V4 field = field

unfoldable pub flag_or_margin_named : List ℕ → StyleField
flag_or_margin_named name =
    if same_name name (codes "Bold") then style.Bold
    else if same_name name (codes "Italic") then style.Italic
    else if same_name name (codes "Underline") then style.Underline
    else if same_name name (codes "StrikeOut") then style.Strikeout
    else if same_name name (codes "MarginL") then style.MarginL
    else if same_name name (codes "MarginR") then style.MarginR
    else if same_name name (codes "MarginV") then style.MarginV
    else style.Other

unfoldable pub shape_named : List ℕ → StyleField
shape_named name =
    if same_name name (codes "ScaleX") then style.ScaleX
    else if same_name name (codes "ScaleY") then style.ScaleY
    else if same_name name (codes "Spacing") then style.Spacing
    else if same_name name (codes "Angle") then style.Angle
    else if same_name name (codes "BorderStyle") then style.BorderStyle
    else if same_name name (codes "Outline") then style.Outline
    else if same_name name (codes "Shadow") then style.Shadow
    else if same_name name (codes "Alignment") then style.Alignment
    else flag_or_margin_named name

-- the field of a name, without regard to ASCII case
unfoldable pub style_field_named : List ℕ → StyleField
style_field_named name =
    if same_name name (codes "Name") then style.Name
    else if same_name name (codes "Fontname") then style.Font
    else if same_name name (codes "Fontsize") then style.Size
    else if same_name name (codes "PrimaryColour") then style.PrimaryColour
    else if same_name name (codes "SecondaryColour") then style.SecondaryColour
    else if same_name name (codes "OutlineColour") then style.OutlineColour
    else if same_name name (codes "BackColour") then style.BackColour
    else shape_named name

-- the fields that a Format line of styles names
unfoldable pub style_fields_of : Version → List ℕ → List StyleField
style_fields_of version value = last_ones style_field_number style.Other (map (λ name. version_field version (style_field_named name)) (names_of value))

-- the fields where no Format line stands before
abbrev pub usual_style_fields : Version → List StyleField
usual_style_fields V4Plus =
    style.Name ∷ style.Font ∷ style.Size ∷ style.PrimaryColour ∷ style.SecondaryColour ∷ style.OutlineColour ∷ style.BackColour
    ∷ style.Bold ∷ style.Italic ∷ style.Underline ∷ style.Strikeout ∷ style.ScaleX ∷ style.ScaleY ∷ style.Spacing ∷ style.Angle
    ∷ style.BorderStyle ∷ style.Outline ∷ style.Shadow ∷ style.Alignment ∷ style.MarginL ∷ style.MarginR ∷ style.MarginV ∷ style.Other ∷ []
usual_style_fields V4 =
    style.Name ∷ style.Font ∷ style.Size ∷ style.PrimaryColour ∷ style.SecondaryColour ∷ style.Other ∷ style.OutlineColour
    ∷ style.Bold ∷ style.Italic ∷ style.BorderStyle ∷ style.Outline ∷ style.Shadow ∷ style.OldAlignment
    ∷ style.MarginL ∷ style.MarginR ∷ style.MarginV ∷ style.Other ∷ style.Other ∷ []

-- ---- event lines

abbrev pub event_field_number : EventField → ℕ
event_field_number event.ReadOrder = 0
event_field_number event.Layer = 1
event_field_number event.Start = 2
event_field_number event.End = 3
event_field_number event.Duration = 4
event_field_number event.Style = 5
event_field_number event.Name = 6
event_field_number event.MarginL = 7
event_field_number event.MarginR = 8
event_field_number event.MarginV = 9
event_field_number event.Effect = 10
event_field_number event.Text = 11
event_field_number event.Utf8 = 12
event_field_number event.Other = 13

unfoldable pub event_margin_named : List ℕ → EventField
event_margin_named name =
    if same_name name (codes "MarginL") then event.MarginL
    else if same_name name (codes "MarginR") then event.MarginR
    else if same_name name (codes "MarginV") then event.MarginV
    else event.Other

-- the field of a name, without regard to ASCII case
unfoldable pub event_field_named : List ℕ → EventField
event_field_named name =
    if same_name name (codes "Layer") then event.Layer
    else if same_name name (codes "Start") then event.Start
    else if same_name name (codes "End") then event.End
    else if same_name name (codes "Style") then event.Style
    else if same_name name (codes "Name") then event.Name
    else if same_name name (codes "Effect") then event.Effect
    else if same_name name (codes "Text") then event.Text
    else event_margin_named name

-- the fields that a Format line of events names
unfoldable pub event_fields_of : List ℕ → List EventField
event_fields_of value = last_ones event_field_number event.Other (map event_field_named (names_of value))

abbrev pub is_text : EventField → Bool
is_text field = event_field_number field == 11

-- the last field is the text
abbrev pub ends_in_text : List EventField → Bool
ends_in_text fields = option_map_or is_text (slice_get fields (length fields - 1)) false

-- the fields where no Format line counts
abbrev pub usual_event_fields : Version → List EventField
usual_event_fields V4Plus =
    event.Layer ∷ event.Start ∷ event.End ∷ event.Style ∷ event.Name ∷ event.MarginL ∷ event.MarginR ∷ event.MarginV ∷ event.Effect ∷ event.Text ∷ []
usual_event_fields V4 =
    event.Other ∷ event.Start ∷ event.End ∷ event.Style ∷ event.Name ∷ event.MarginL ∷ event.MarginR ∷ event.MarginV ∷ event.Effect ∷ event.Text ∷ []
