-- Public: the lines of a written script.
use Rattle.std.specs.Prelude.{ℕ, ◌+ℤ◌, Bool, if◌then◌else◌, List, [], ◌∷◌, ◌++◌, map, codes, slice_index_or, ℤ}
use Rattle.std.specs.Fmt.{decimal, signed_decimal}
use Rattle.std.specs.Int.RustNames.{unsigned_abs}
use Rattle.std.specs.List.{flat_map, join_with_byte}
use Rattle.ass_num.specs.Bytes.{comma, space}
use Rattle.ass_num.specs.Colours.{colour_of}
use Rattle.ass_num.specs.declared.colour.Rgba.{Rgba}
use Rattle.ass_script.specs.declared.matrix.ColourRange.{ColourRange}
use Rattle.ass_script.specs.declared.matrix.ColourRange.TheVariants as range
use Rattle.ass_script.specs.declared.matrix.ColourMatrix.{ColourMatrix}
use Rattle.ass_script.specs.declared.matrix.ColourMatrix.TheVariants as matrix
use Rattle.ass_script.specs.declared.matrix.ScriptMatrix.{ScriptMatrix}
use Rattle.ass_script.specs.declared.matrix.ScriptMatrix.TheVariants.{Unconverted, Unsaid, Video}
use Rattle.ass_script.specs.declared.script.Header.{Header}
use Rattle.ass_script.specs.declared.style.Style.{Style}
use Rattle.ass_script.specs.Scripts.{ScriptValue}
use Rattle.ass_events.specs.declared.event.Event.{Event}
use Rattle.track_write.specs.Spelling.{milli_text, colour_text, flag_text, time_text}

-- ---- the header

-- a key of the header and its number
abbrev pub number_line : List ℕ → ℕ → List ℕ
number_line key n = key ++ decimal n

abbrev pub scaled_line : Bool → List ℕ
scaled_line scaled = codes "ScaledBorderAndShadow: " ++ (if scaled then codes "yes" else codes "no")

abbrev pub range_name : ColourRange → List ℕ
range_name range.Limited = codes "TV."
range_name range.Full = codes "PC."

abbrev pub matrix_name : ColourMatrix → List ℕ
matrix_name matrix.Bt601 = codes "601"
matrix_name matrix.Bt709 = codes "709"
matrix_name matrix.Smpte240m = codes "240M"
matrix_name matrix.Fcc = codes "FCC"

-- the line of a video's colours
abbrev pub video_line : ColourRange → ColourMatrix → List ℕ
video_line r m = codes "YCbCr Matrix: " ++ (range_name r ++ matrix_name m)

-- no line where the script says nothing
abbrev pub matrix_lines : ScriptMatrix → List (List ℕ)
matrix_lines Unsaid = []
matrix_lines Unconverted = codes "YCbCr Matrix: None" ∷ []
matrix_lines (Video colours) = video_line colours.range colours.matrix ∷ []

-- the header
abbrev pub header_lines : Header → List (List ℕ)
header_lines header =
    codes "[Script Info]" ∷ codes "ScriptType: v4.00+"
    ∷ number_line (codes "PlayResX: ") header.res_x ∷ number_line (codes "PlayResY: ") header.res_y
    ∷ number_line (codes "WrapStyle: ") header.wrap ∷ scaled_line header.scaled ∷ matrix_lines header.matrix

-- ---- styles

abbrev pub style_names : List ℕ
style_names = codes "Format: Name, Fontname, Fontsize, PrimaryColour, SecondaryColour, OutlineColour, BackColour, Bold, Italic, Underline, StrikeOut, "

abbrev pub shape_names : List ℕ
shape_names = codes "ScaleX, ScaleY, Spacing, Angle, BorderStyle, Outline, Shadow, Alignment, MarginL, MarginR, MarginV, Encoding"

-- the usual Format of styles
abbrev pub style_format_line : List ℕ
style_format_line = style_names ++ shape_names

-- the primary, the secondary, the outline and the back colour by their place
abbrev pub colour_of_place : Style → ℕ → Rgba
colour_of_place style k = slice_index_or style.colours k (colour_of 0)

-- the fields of a style in the order of the Format; the encoding is 1
abbrev pub style_fields : Style → List (List ℕ)
style_fields style =
    style.name ∷ style.font ∷ milli_text style.size
    ∷ colour_text (colour_of_place style 0) ∷ colour_text (colour_of_place style 1) ∷ colour_text (colour_of_place style 2) ∷ colour_text (colour_of_place style 3)
    ∷ flag_text style.bold ∷ flag_text style.italic ∷ flag_text style.underline ∷ flag_text style.strikeout
    ∷ milli_text style.scale_x ∷ milli_text style.scale_y ∷ milli_text style.spacing ∷ milli_text style.angle
    ∷ decimal style.border_style ∷ milli_text style.outline ∷ milli_text style.shadow ∷ decimal style.alignment
    ∷ signed_decimal style.margin_l ∷ signed_decimal style.margin_r ∷ signed_decimal style.margin_v ∷ codes "1" ∷ []

-- fields separated by commas alone
abbrev pub row : List (List ℕ) → List ℕ
row fields = join_with_byte comma fields

abbrev pub style_line : Style → List ℕ
style_line style = codes "Style: " ++ row (style_fields style)

abbrev pub style_lines : List Style → List (List ℕ)
style_lines styles = codes "[V4+ Styles]" ∷ style_format_line ∷ map style_line styles

-- ---- events

-- the usual Format of events
abbrev pub event_format_line : List ℕ
event_format_line = codes "Format: Layer, Start, End, Style, Name, MarginL, MarginR, MarginV, Effect, Text"

-- when an event ends, in milliseconds
abbrev pub event_end : Event → ℤ
event_end event = event.start +ℤ event.duration

-- the fields of an event in the order of the Format
abbrev pub event_fields : Event → List (List ℕ)
event_fields event =
    signed_decimal event.layer ∷ time_text (unsigned_abs event.start) ∷ time_text (unsigned_abs (event_end event)) ∷ event.style ∷ event.name
    ∷ signed_decimal event.margin_l ∷ signed_decimal event.margin_r ∷ signed_decimal event.margin_v ∷ event.effect ∷ event.text ∷ []

abbrev pub dialogue_line : Event → List ℕ
dialogue_line event = codes "Dialogue: " ++ row (event_fields event)

-- what stands behind `Dialogue:`
abbrev pub spoken : Event → List ℕ
spoken event = space ∷ row (event_fields event)

abbrev pub event_lines : List Event → List (List ℕ)
event_lines events = codes "[Events]" ∷ event_format_line ∷ map dialogue_line events

-- ---- the whole script

-- a line and the line feed behind it
abbrev pub ended : List ℕ → List ℕ
ended line = line ++ 10 ∷ []

abbrev pub script_lines : ScriptValue → List Event → List (List ℕ)
script_lines script events = header_lines script.header ++ style_lines script.styles ++ event_lines events

-- The text of a header, of styles and of events: its lines, each ended by a line feed.
abbrev pub script_bytes : ScriptValue → List Event → List ℕ
script_bytes script events = flat_map ended (script_lines script events)
